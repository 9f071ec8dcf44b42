-- Envelopes on both sides of each line of change requests 3 and 6: whole answers of TA1, computed.
use Prim.Native.String.{String}
use mathlib.Core.Path.{◌≡◌, refl}
use mathlib.Core.Bool.{Bool, true, ◌&&◌}
use mathlib.Core.List.{List, [], ◌∷◌, ◌++◌}
use lib.Dec.{eqb}
use Rattle.rules.specs.Base.{Bytes, ascii, same, all}
use Rattle.rules.specs.InterchangeAcknowledgment.{interchange_refusal, interchange_response}
use Rattle.rules.specs.Program.{ta1_prints}
use Rattle.rules.proofs.Open.{everything}
use Rattle.rules.proofs.Exchange.{sample_call}

-- what stands after ISA, and what TA1 says of it, TA104 and TA105
infix 20 ◌gets◌
pub data Row : Type 0 where
  ◌gets◌ : String → String → Row

-- the table
unfoldable pub envelopes : List Row
envelopes =
    -- the printed exchange, with fewer segments
    ("GS*GF*CARRA*BROKB*20240315*0915*42*X*006010~ST*990*0001~B1*ABCD~SE*3*0001~GE*1*42~IEA*1*000000042~" gets "A*000") ∷
    -- what the group holds has no say: refusals 9, 10 and 12 of the 997
    ("GS~IEA*00001*000000042~" gets "A*000") ∷
    ("GS*FA*CARRA*BROKB*20240315*0915*42*X*006010~GE*0*42~IEA*1*000000042~" gets "A*000") ∷
    -- 6, also where 7 and 8 fail
    ("GS~IEA*1*000000042" gets "R*023") ∷
    ("IEA" gets "R*023") ∷
    -- 7, also where 8 fails
    ("" gets "R*022") ∷
    ("IEA*1*000000042~" gets "R*022") ∷
    ("GS~GS~IEA*2*000000043~" gets "R*022") ∷
    ("GS~GS~GE~IEA*2*000000042~" gets "R*022") ∷
    ("GS~GE~ST~GS~GE~IEA*2*000000042~" gets "R*022") ∷
    -- 8: two elements come first
    ("GS~IEA*1*000000042*~" gets "R*022") ∷
    ("GS~IEA*2~" gets "R*022") ∷
    -- then IEA02
    ("GS~IEA**~" gets "R*001") ∷
    ("GS~IEA*2*000000043~" gets "R*001") ∷
    -- then IEA01
    ("GS~IEA*000001*000000042~" gets "R*021") ∷
    ("GS~IEA*2*000000042~" gets "R*021") ∷
    -- two groups: IEA01 counts them
    ("GS~GE~GS~GE~IEA*1*000000042~" gets "R*021") ∷
    ("GS~GE~GS~GE~IEA*2*000000042~" gets "A*000") ∷
    -- sixteen groups, and one too many
    ("GS~GE~GS~GE~GS~GE~GS~GE~GS~GE~GS~GE~GS~GE~GS~GE~GS~GE~GS~GE~GS~GE~GS~GE~GS~GE~GS~GE~GS~GE~GS~GE~IEA*16*000000042~" gets "A*000") ∷
    ("GS~GE~GS~GE~GS~GE~GS~GE~GS~GE~GS~GE~GS~GE~GS~GE~GS~GE~GS~GE~GS~GE~GS~GE~GS~GE~GS~GE~GS~GE~GS~GE~GS~IEA*17*000000042~" gets "R*022") ∷
    []

-- the interchange of a row, and its whole response: ISA09 and ISA10 are no day and no hour, and go into TA1 as they are
unfoldable pub received_as : Row → Bytes
received_as (rest gets verdict) =
    ascii "ISA*00*          *00*          *ZZ*CARRIERA       *ZZ*BROKERB        *249931*2575*U*00601*000000042*1*T*>~" ++ ascii rest

unfoldable pub sent_as : Row → Bytes
sent_as (rest gets verdict) =
    ascii "ISA*00*          *00*          *ZZ*BROKERB        *ZZ*CARRIERA       *240315*0930*U*00401*000000077*0*T*>~"
    ++ ascii "TA1*000000042*249931*2575*" ++ ascii verdict ++ ascii "~IEA*0*000000077~"

-- the interchange is answered, and the response is the row's, byte for byte
unfoldable pub is_right : Row → Bool
is_right e =
    eqb (interchange_refusal (received_as e) sample_call) 0 && same (interchange_response (received_as e) sample_call) (sent_as e)

-- Every row holds. Shut out: IEA01 tested before IEA02, `IEA**` taken for an IEA without elements, ISA10 before ISA09, a TA1 that counts a group, IEA01 compared
-- with 1, a limit of 15 or 17 groups.
pub all_right : all is_right envelopes ≡ true
unfolding everything envelopes received_as sent_as is_right
all_right = refl

-- ISA14 other than 1 is 15, whatever the envelope; one of 1 to 5 comes before it
unfoldable pub asked_by : String → Bytes
asked_by isa14 =
    ascii "ISA*00*          *00*          *ZZ*CARRIERA       *ZZ*BROKERB        *240315*0915*U*00601*000000042*" ++ ascii isa14
    ++ ascii "*T*>~GS~IEA*2*000000043"

pub unasked : all (λ isa14. eqb (interchange_refusal (asked_by isa14) sample_call) 15) ("0" ∷ " " ∷ "Y" ∷ []) ≡ true
unfolding everything asked_by
unasked = refl

pub bad_isa : interchange_refusal (asked_by ">") sample_call ≡ 5
unfolding everything asked_by
bad_isa = refl

-- the program, with its first line: what `ta1` prints is the interchange with the TA1. Shut out: a program that prints the 997.
pub prints : ta1_prints (ascii "20240315 0930 77\n" ++ received_as ("GS~IEA*1*000000042~" gets "A*000")) ≡ sent_as ("GS~IEA*1*000000042~" gets "A*000")
unfolding everything received_as sent_as
prints = refl
