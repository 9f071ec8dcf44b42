-- P1 to P12 of document 01: one table, and one theorem that every row of it holds.
use Prim.Native.String.{String}
use mathlib.Core.Path.{◌≡◌, refl}
use mathlib.Core.Bool.{Bool, true, ◌&&◌}
use mathlib.Core.List.{List, [], ◌∷◌, ◌++◌}
use lib.Dec.{eqb}
use Rattle.rules.specs.Base.{Bytes, ascii, same, all}
use Rattle.rules.specs.Refusals.{refusal}
use Rattle.rules.specs.Response.{response}
use Rattle.rules.proofs.Open.{everything}
use Rattle.rules.proofs.Exchange.{sample_call, opened, closed}

-- what stands after ST*990*0001~ up to GE, and what is answered after AK2*990*0001~ up to SE
infix 20 ◌gives◌
pub data Marked : Type 0 where
  ◌gives◌ : String → String → Marked

-- the table
unfoldable pub marked : List Marked
marked =
    ("B1*A~SE*3*0001~" gives "AK3*B1*2**8~AK4*1*140*4*A~AK5*R*5~AK9*R*1*1*0~SE*8*0001~") ∷  -- P1
    ("B1*AB~SE*3*0001~" gives "AK5*A~AK9*A*1*1*1~SE*6*0001~") ∷  -- P2
    ("B1*ABCD~SE*3*0001~" gives "AK5*A~AK9*A*1*1*1~SE*6*0001~") ∷
    ("B1*ABCDE~SE*3*0001~" gives "AK3*B1*2**8~AK4*1*140*5*ABCDE~AK5*R*5~AK9*R*1*1*0~SE*8*0001~") ∷  -- P3
    ("B1*AB~L11~SE*4*0001~" gives "AK3*L11*3**8~AK4*1*127*2~AK5*R*5~AK9*R*1*1*0~SE*8*0001~") ∷  -- P4
    ("B1*AB~L11***T~SE*4*0001~" gives "AK5*A~AK9*A*1*1*1~SE*6*0001~") ∷  -- P5
    ("B1*AB~L11*X~SE*4*0001~" gives "AK3*L11*3**8~AK4*2*128*2~AK5*R*5~AK9*R*1*1*0~SE*8*0001~") ∷  -- P6
    ("B1*AB**20241231~SE*3*0001~" gives "AK5*A~AK9*A*1*1*1~SE*6*0001~") ∷  -- P7
    ("B1*AB**20240100~SE*3*0001~" gives "AK3*B1*2**8~AK4*3*373*8*20240100~AK5*R*5~AK9*R*1*1*0~SE*8*0001~") ∷
    ("B1*AB~SE*-3*0001~" gives "AK5*R*4~AK9*R*1*1*0~SE*6*0001~") ∷  -- P8
    ("B1*AB~SE*003*0001~" gives "AK5*A~AK9*A*1*1*1~SE*6*0001~") ∷  -- P9
    ("SE*2*0001~" gives "AK3*B1*2**3~AK5*R*5~AK9*R*1*1*0~SE*7*0001~") ∷  -- P10
    ("B1*AB~L11*X*YZ~L11*X*YZ~SE*5*0001~" gives "AK3*L11*4**5~AK5*R*5~AK9*R*1*1*0~SE*7*0001~") ∷  -- P11
    ("B1*AB~K1*X~SE*4*0001~" gives "AK3*K1*3**6~AK5*R*5~AK9*R*1*1*0~SE*7*0001~") ∷  -- P12
    ("b1*AB~SE*3*0001~" gives "AK3*ZZZ*2**1~AK3*B1*3**3~AK5*R*5~AK9*R*1*1*0~SE*8*0001~") ∷
    []

-- the interchange around the rest of a set, in edition 006010 and right in everything else
unfoldable pub around : String → Bytes
around rest =
    ascii "ISA*00*          *00*          *ZZ*CARRIERA       *ZZ*BROKERB        *240315*0915*U*00601*000000042*0*T*>~"
    ++ ascii "GS*GF*CARRA*BROKB*20240315*0915*42*X*006010~ST*990*0001~"
    ++ ascii rest
    ++ ascii "GE*1*42~IEA*1*000000042~"

-- the interchange of a row, and its whole response
unfoldable pub received_for : Marked → Bytes
received_for (rest gives told) = around rest

unfoldable pub sent_for : Marked → Bytes
sent_for (rest gives told) = opened ++ ascii "AK2*990*0001~" ++ ascii told ++ closed

-- the interchange is answered, and the response is the row's, byte for byte
unfoldable pub is_right : Marked → Bool
is_right m =
    eqb (refusal (received_for m) sample_call) 0 && same (response (received_for m) sample_call) (sent_for m)

-- Every row holds. A program that draws one of these lines elsewhere, as one that takes a code of one letter, is shut out.
pub all_marked : all is_right marked ≡ true
unfolding everything marked around opened closed received_for sent_for is_right
all_marked = refl
