-- What document 01 calls tempting and wrong, and the verdicts of a group: whole answers, computed.
use Prim.Native.String.{String}
use mathlib.Core.Path.{◌≡◌, refl}
use mathlib.Core.Bool.{Bool, true, ◌&&◌}
use mathlib.Core.List.{List, [], ◌∷◌, ◌++◌}
use lib.Dec.{eqb}
use Rattle.rules.specs.Base.{Bytes, ascii, same, all}
use Rattle.rules.specs.Refusals.{refusal}
use Rattle.rules.specs.Response.{response}
use Rattle.rules.proofs.Open.{everything}
use Rattle.rules.proofs.Exchange.{sample_call, opened, closed}

-- what stands between GS and IEA, and what is answered from the first AK2 to SE
infix 20 ◌answers◌
pub data Group : Type 0 where
  ◌answers◌ : String → String → Group

-- the table
unfoldable pub groups : List Group
groups =
    -- the place stays on code 7, so a second L11 after a late B1 is one too many
    ("ST*990*0001~B1*AB~L11*X*YZ~B1*AB~L11*X*YZ~SE*6*0001~GE*1*42~"
    answers "AK2*990*0001~AK3*B1*4**7~AK3*L11*5**5~AK5*R*5~AK9*R*1*1*0~SE*8*0001~") ∷
    -- positions start anew in each set
    ("ST*990*0001~B1*A~SE*3*0001~ST*990*0002~B1*A~SE*3*0002~GE*2*42~"
    answers "AK2*990*0001~AK3*B1*2**8~AK4*1*140*4*A~AK5*R*5~AK2*990*0002~AK3*B1*2**8~AK4*1*140*4*A~AK5*R*5~AK9*R*2*2*0~SE*12*0001~") ∷
    -- L11's code 2 stands once
    ("ST*990*0001~B1*AB~L11**CN~SE*4*0001~GE*1*42~"
    answers "AK2*990*0001~AK3*L11*3**8~AK4*1*127*2~AK5*R*5~AK9*R*1*1*0~SE*8*0001~") ∷
    -- AK902 is what GE01 says
    ("ST*990*0001~B1*AB~SE*3*0001~GE*012*42~" answers "AK2*990*0001~AK5*A~AK9*R*12*1*0*5~SE*6*0001~") ∷
    -- a missing SE and a missing GE
    ("ST*990*0001~" answers "AK2*990*0001~AK3*B1*2**3~AK5*R*2*5~AK9*R*1*1*0*3~SE*7*0001~") ∷
    -- an earlier set has the same ST02: the later one is rejected, and the group is accepted in part
    ("ST*990*0001~B1*AB~SE*3*0001~ST*990*0001~B1*AB~SE*3*0001~GE*2*42~"
    answers "AK2*990*0001~AK5*A~AK2*990*0001~AK5*R*23~AK9*P*2*2*1~SE*8*0001~") ∷
    -- all accepted
    ("ST*990*0001~B1*AB~SE*3*0001~GE*1*42~" answers "AK2*990*0001~AK5*A~AK9*A*1*1*1~SE*6*0001~") ∷
    -- not a 990: no AK3
    ("ST*204*0001~B2~SE*4*0002~GE*1*42~" answers "AK2*204*0001~AK5*R*1*3*4~AK9*R*1*1*0~SE*6*0001~") ∷
    []

-- the interchange around a group, in edition 006010
unfoldable pub around : String → Bytes
around group =
    ascii "ISA*00*          *00*          *ZZ*CARRIERA       *ZZ*BROKERB        *240315*0915*U*00601*000000042*0*T*>~"
    ++ ascii "GS*GF*CARRA*BROKB*20240315*0915*42*X*006010~"
    ++ ascii group
    ++ ascii "IEA*1*000000042~"

-- the interchange of a row, and its whole response
unfoldable pub received_in : Group → Bytes
received_in (group answers told) = around group

unfoldable pub sent_in : Group → Bytes
sent_in (group answers told) = opened ++ ascii told ++ closed

-- the interchange is answered, and the response is the row's, byte for byte
unfoldable pub is_right : Group → Bool
is_right g =
    eqb (refusal (received_in g) sample_call) 0 && same (response (received_in g) sample_call) (sent_in g)

-- Every row holds. A program that does what is tempting and wrong, as to move the place on code 7, is shut out.
pub all_right : all is_right groups ≡ true
unfolding everything groups around opened closed received_in sent_in is_right
all_right = refl
