-- Change request 9: elements with a repetition separator, and separators that are refused, on both sides of each line: whole answers, computed.
use Rattle.std.specs.Prelude.{if◌then◌else◌}
use Prim.Native.Nat.{ℕ}
use Prim.Native.String.{String}
use mathlib.Core.Path.{◌≡◌, refl}
use mathlib.Core.Bool.{Bool, true, ◌&&◌, not}
use mathlib.Core.List.{List, [], ◌∷◌, ◌++◌}
use lib.Dec.{eqb, leb}
use Rattle.rules.specs.Base.{Bytes, ascii, same, all}
use Rattle.rules.specs.Refusals.{refusal}
use Rattle.rules.specs.Response.{response}
use Rattle.rules.specs.InterchangeAcknowledgment.{interchange_refusal}
use Rattle.rules.proofs.Open.{everything}
use Rattle.rules.proofs.Exchange.{sample_call, opened, closed}

-- 1. Elements.
-- what stands from GS08 up to IEA, ISA11 with ISA12, and what is answered from the first AK2 to SE
infix 20 ◌under◌answers◌
pub data Repeated : Type 0 where
  ◌under◌answers◌ : String → String → String → Repeated

-- the table
unfoldable pub repeated : List Repeated
repeated =
    -- each row of the tables but ST01 and ST02, alone and among other bytes: 12, and not 4, 5, 6, 7 or 8
    ("006010~ST*990*0001~B1*^*^*20240315^*A^D~SE*3*0001~GE*1*42~" under "^*00601"
    answers "AK2*990*0001~AK3*B1*2**8~AK4*1*140*12~AK4*2*145*12~AK4*3*373*12~AK4*4*558*12~AK5*R*5~AK9*R*1*1*0~SE*11*0001~") ∷
    ("006010~ST*990*0001*^~B1*AB~L11*A^B*^^*^~SE*4*0001~GE*1*42~" under "^*00601"
    answers "AK2*990*0001~AK3*ST*1**8~AK4*3*1705*12~AK3*L11*3**8~AK4*1*127*12~AK4*2*128*12~AK4*3*352*12~AK5*R*5~AK9*R*1*1*0~SE*12*0001~") ∷
    ("004010~ST*990*0001~B1*AB~K1*^*A^~SE*4*0001~GE*1*42~" under "^*00601"
    answers "AK2*990*0001~AK3*K1*3**8~AK4*1*61*12~AK4*2*61*12~AK5*R*5~AK9*R*1*1*0~SE*9*0001~") ∷
    -- SE01 is no count, and SE02 is not ST02
    ("006010~ST*990*0001~B1*AB~SE*3^3*0001~GE*1*42~" under "^*00601"
    answers "AK2*990*0001~AK3*SE*3**8~AK4*1*96*12~AK5*R*4*5~AK9*R*1*1*0~SE*8*0001~") ∷
    ("006010~ST*990*0001~B1*AB~SE*3*0001^~GE*1*42~" under "^*00601"
    answers "AK2*990*0001~AK3*SE*3**8~AK4*2*329*12~AK5*R*3*5~AK9*R*1*1*0~SE*8*0001~") ∷
    -- a value with 12 is there for the notes
    ("006010~ST*990*0001~B1*AB~L11*^~SE*4*0001~GE*1*42~" under "^*00601"
    answers "AK2*990*0001~AK3*L11*3**8~AK4*1*127*12~AK4*2*128*2~AK5*R*5~AK9*R*1*1*0~SE*9*0001~") ∷
    -- 12 goes before 6, which stands without it
    ("006010~ST*990*0001~B1*>^*>~SE*3*0001~GE*1*42~" under "^*00601"
    answers "AK2*990*0001~AK3*B1*2**8~AK4*1*140*12~AK4*2*145*6~AK5*R*5~AK9*R*1*1*0~SE*9*0001~") ∷
    -- no 12 beyond the table, in a segment without one, in an id, and in GE
    ("006010~ST*990*0001~B1*AB****^~SE*3*0001~GE*1*42~" under "^*00601"
    answers "AK2*990*0001~AK3*B1*2**8~AK4*5**3~AK5*R*5~AK9*R*1*1*0~SE*8*0001~") ∷
    ("006010~ST*990*0001~B1*AB~ZZ9*^~K1*^~L^1*^~SE*6*0001~GE*1*42~" under "^*00601"
    answers "AK2*990*0001~AK3*ZZ9*3**1~AK3*K1*4**6~AK3*ZZZ*5**1~AK5*R*5~AK9*R*1*1*0~SE*9*0001~") ∷
    ("006010~ST*990*0001~B1*AB~SE*3*0001~GE*1^*42^~" under "^*00601"
    answers "AK2*990*0001~AK5*A~AK9*R*1*1*0*4*5~SE*6*0001~") ∷
    -- ISA12 on both sides of 402, and where it is no five digits
    ("006010~ST*990*0001~B1*AB*A^B**A^D~SE*3*0001~GE*1*42~" under "^*00401"
    answers "AK2*990*0001~AK3*B1*2**8~AK4*4*558*5*A^D~AK5*R*5~AK9*R*1*1*0~SE*8*0001~") ∷
    ("006010~ST*990*0001~B1*AB*A^B**A^D~SE*3*0001~GE*1*42~" under "^*00402"
    answers "AK2*990*0001~AK3*B1*2**8~AK4*2*145*12~AK4*4*558*12~AK5*R*5~AK9*R*1*1*0~SE*9*0001~") ∷
    ("006010~ST*990*0001~B1*AB*A^B**A^D~SE*3*0001~GE*1*42~" under "^*0402A"
    answers "AK2*990*0001~AK3*B1*2**8~AK4*4*558*5*A^D~AK5*R*5~AK9*R*1*1*0~SE*8*0001~") ∷
    -- ISA11 `U` is no separator, and one may be a byte that no text has
    ("006010~ST*990*0001~B1*AUB*A^B**AUD~SE*3*0001~GE*1*42~" under "U*00601"
    answers "AK2*990*0001~AK3*B1*2**8~AK4*4*558*5*AUD~AK5*R*5~AK9*R*1*1*0~SE*8*0001~") ∷
    ("006010~ST*990*0001~B1*AB*A\u{1f}B**A^D~SE*3*0001~GE*1*42~" under "\u{1f}*00601"
    answers "AK2*990*0001~AK3*B1*2**8~AK4*2*145*12~AK4*4*558*5*A^D~AK5*R*5~AK9*R*1*1*0~SE*9*0001~") ∷
    []

-- the interchange of a row, and its whole response
unfoldable pub received_under : Repeated → Bytes
received_under (group under isa11 answers told) =
    ascii "ISA*00*          *00*          *ZZ*CARRIERA       *ZZ*BROKERB        *240315*0915*" ++ ascii isa11 ++ ascii "*000000042*0*T*>~"
    ++ ascii "GS*GF*CARRA*BROKB*20240315*0915*42*X*" ++ ascii group
    ++ ascii "IEA*1*000000042~"

unfoldable pub sent_under : Repeated → Bytes
sent_under (group under isa11 answers told) = opened ++ ascii told ++ closed

-- the interchange is answered, and the response is the row's, byte for byte
unfoldable pub is_right : Repeated → Bool
is_right r =
    eqb (refusal (received_under r) sample_call) 0 && same (response (received_under r) sample_call) (sent_under r)

-- Every row holds. Shut out: 12 after 6, 12 for an element beyond its table, a separator that is echoed, ISA12 00402 taken for a version without repetition.
pub all_repeated : all is_right repeated ≡ true
unfolding everything repeated opened closed received_under sent_under is_right
all_repeated = refl

-- 2. Separators that are refused.
-- ISA06, ISA11, what stands from ISA14 up to ST02; the refusal with ISA12 00601, and with 00401, where ISA11 is text
pub data Barred : Type 0 where
  bars : String → String → String → ℕ → ℕ → Barred

-- the right ISA06 and rest
abbrev sender : String
sender = "CARRIERA       "

abbrev usual : String
usual = "1*T*>~GS*GF*CARRA*BROKB*20240315*0915*42*X*006010~ST*990*0001"

-- the table
unfoldable pub barred : List Barred
barred =
    -- 4: a letter, a digit, a space
    bars sender "A" usual 4 0 ∷
    bars sender "u" usual 4 0 ∷
    bars sender "7" usual 4 0 ∷
    bars sender " " usual 4 0 ∷
    -- another delimiter, which is no text either
    bars sender "*" usual 4 5 ∷
    bars sender ">" usual 4 5 ∷
    bars sender "~" usual 4 5 ∷
    -- 5: in a field of ISA before ISA11, and after it
    bars "CARRIER^A      " "^" usual 5 0 ∷
    bars sender "^" "^*T*>~GS*GF*CARRA*BROKB*20240315*0915*42*X*006010~ST*990*0001" 5 0 ∷
    -- 9: in GS02, GS03, GS07, GS08
    bars sender "^" "1*T*>~GS*GF*CARR^*BROKB*20240315*0915*42*X*006010~ST*990*0001" 9 0 ∷
    bars sender "^" "1*T*>~GS*GF*CARRA*BROK^*20240315*0915*42*X*006010~ST*990*0001" 9 0 ∷
    bars sender "^" "1*T*>~GS*GF*CARRA*BROKB*20240315*0915*42*^*006010~ST*990*0001" 9 0 ∷
    bars sender "^" "1*T*>~GS*GF*CARRA*BROKB*20240315*0915*42*X*006010^~ST*990*0001" 9 0 ∷
    -- 13: in ST02
    bars sender "^" "1*T*>~GS*GF*CARRA*BROKB*20240315*0915*42*X*006010~ST*990*000^" 13 0 ∷
    []

-- the interchange of a row with this ISA12
unfoldable pub received_with : String → Barred → Bytes
received_with isa12 (bars isa06 isa11 rest n m) =
    ascii "ISA*00*          *00*          *ZZ*" ++ ascii isa06 ++ ascii "*ZZ*BROKERB        *240315*0915*" ++ ascii isa11
    ++ ascii "*" ++ ascii isa12 ++ ascii "*000000042*" ++ ascii rest ++ ascii "~B1*AB~SE*3*0001~GE*1*42~IEA*1*000000042~"

-- its two refusals
unfoldable pub barred_by : Barred → ℕ
barred_by (bars isa06 isa11 rest n m) = n

unfoldable pub formerly : Barred → ℕ
formerly (bars isa06 isa11 rest n m) = m

-- the interchange is refused with the number of the row, also for the TA1 where that is 4 or 5; with ISA12 00401 it fares as it did
unfoldable pub is_barred : Barred → Bool
is_barred b =
    let n = barred_by b in
    not (eqb n 0) && eqb (refusal (received_with "00601" b) sample_call) n
    && eqb (interchange_refusal (received_with "00601" b) sample_call) (if leb n 5 then n else 0)
    && eqb (refusal (received_with "00401" b) sample_call) (formerly b)

-- Every row holds. Shut out: a letter or a delimiter taken for a separator, ISA11 tested as text where it is one, a separator in a text of ISA, GS or ST
-- that goes into the response.
pub all_barred : all is_barred barred ≡ true
unfolding everything barred received_with barred_by formerly is_barred
all_barred = refl
