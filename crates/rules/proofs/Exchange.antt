-- The exchange that document 01 prints: what the definitions answer is what it prints. Then interchanges with several groups.
use Prim.Native.String.{String}
use mathlib.Core.Path.{◌≡◌, refl}
use mathlib.Core.Bool.{Bool, true, ◌&&◌, not}
use mathlib.Core.List.{List, [], ◌∷◌, ◌++◌}
use lib.Dec.{eqb}
use lib.ListN.{replicate}
use Rattle.rules.specs.Base.{Bytes, ascii, all}
use Rattle.rules.specs.Refusals.{refusal}
use Rattle.rules.specs.Response.{response}
use Rattle.rules.specs.Answers.{Outcome, functional_acknowledgment, called}
use Rattle.rules.specs.Program.{ack_prints}
use Rattle.rules.specs.declared.Call.{Call}
use Rattle.rules.proofs.Open.{everything}
use Prim.Native.Nat.{ℕ}

-- 1. The printed exchange.
-- its caller's numbers
abbrev pub sample_call : Call
sample_call = record { date = 20240315; time = 930; control = 77 }

-- its interchange
pub received : Bytes
received =
    ascii "ISA*00*          *00*          *ZZ*CARRIERA       *ZZ*BROKERB        *240315*0915*U*00601*000000042*0*T*>~"
    ++ ascii "GS*GF*CARRA*BROKB*20240315*0915*42*X*006010~"
    ++ ascii "ST*990*0001~B1*ABCD*L100*20240315*A~SE*3*0001~"
    ++ ascii "ST*990*0002~B1*ABCDE*L101*20241315*Q~L11**CN~SE*3*0002~"
    ++ ascii "GE*2*42~IEA*1*000000042~"

-- its response
pub sent : Bytes
sent =
    ascii "ISA*00*          *00*          *ZZ*BROKERB        *ZZ*CARRIERA       *240315*0930*U*00401*000000077*0*T*>~"
    ++ ascii "GS*FA*BROKB*CARRA*20240315*0930*77*X*004010~"
    ++ ascii "ST*997*0001~AK1*GF*42~AK2*990*0001~AK5*A~"
    ++ ascii "AK2*990*0002~AK3*B1*2**8~AK4*1*140*5*ABCDE~AK4*3*373*8*20241315~AK4*4*558*7*Q~"
    ++ ascii "AK3*L11*3**8~AK4*1*127*2~AK5*R*4*5~"
    ++ ascii "AK9*P*2*2*1~SE*14*0001~GE*1*77~IEA*1*000000077~"

-- The printed interchange is not refused, and its response is the printed one. A program that writes one byte of it otherwise is shut out.
pub not_refused : refusal received sample_call ≡ 0
unfolding everything received
not_refused = refl

pub responds : response received sample_call ≡ sent
unfolding everything received sent
responds = refl

-- how every response to an interchange with that ISA, one group with that GS, and those numbers begins and ends
unfoldable pub opened : Bytes
opened =
    ascii "ISA*00*          *00*          *ZZ*BROKERB        *ZZ*CARRIERA       *240315*0930*U*00401*000000077*0*T*>~"
    ++ ascii "GS*FA*BROKB*CARRA*20240315*0930*77*X*004010~ST*997*0001~AK1*GF*42~"

unfoldable pub closed : Bytes
closed = ascii "GE*1*77~IEA*1*000000077~"

-- the outcome of the printed call on a buffer of so many bytes 7
unfoldable pub exchange : ℕ → Outcome
exchange room = called (functional_acknowledgment received sample_call) (replicate room 7)

-- the response has 351 bytes: in a longer buffer the rest is as lent
pub answered : exchange 400 ≡ record { number = 0; size = 351; buffer = sent ++ replicate 49 7 }
unfolding everything exchange received sent
answered = refl

pub fits_exactly : exchange 351 ≡ record { number = 0; size = 351; buffer = sent }
unfolding everything exchange received sent
fits_exactly = refl

-- one byte too short: the length needed, and the buffer as lent
pub too_short : exchange 350 ≡ record { number = 14; size = 351; buffer = replicate 350 7 }
unfolding everything exchange received sent
too_short = refl

-- the program, with its first line
pub prints : ack_prints (ascii "20240315 0930 77\n" ++ received) ≡ sent
unfolding everything ack_prints received sent
prints = refl

-- a first line without its LF, and one with a letter too many
pub prints_no_line : ack_prints (ascii "20240315 0930 77") ≡ ascii "refused 1\n"
unfolding everything ack_prints
prints_no_line = refl

pub prints_bad_line : ack_prints (ascii "20240315 0930 77x\n" ++ received) ≡ ascii "refused 1\n"
unfolding everything ack_prints received
prints_bad_line = refl

pub prints_refusal : ack_prints (ascii "20240315 0930 77\nISA") ≡ ascii "refused 2\n"
unfolding everything ack_prints
prints_refusal = refl

-- 2. Change request 6: several groups in one interchange.
-- Two groups of different partners and editions: the second lacks its GE, and has the GS06 and the ST02 of the first.
pub received_two : Bytes
received_two =
    ascii "ISA*00*          *00*          *ZZ*CARRIERA       *ZZ*BROKERB        *240315*0915*U*00601*000000042*0*T*>~"
    ++ ascii "GS*GF*CARRA*BROKB*20240315*0915*42*X*006010~ST*990*0001~B1*ABCD*L100*20240315*A~SE*3*0001~GE*1*42~"
    ++ ascii "GS*GF*CARRC*BROKD*20240315*0915*42*X*004010~ST*990*0001~B1*ABCDE~SE*3*0001~"
    ++ ascii "IEA*00002*000000042~"

-- one GS by the first group, a 997 for each group in order, and GE counts them
pub sent_two : Bytes
sent_two =
    ascii "ISA*00*          *00*          *ZZ*BROKERB        *ZZ*CARRIERA       *240315*0930*U*00401*000000077*0*T*>~"
    ++ ascii "GS*FA*BROKB*CARRA*20240315*0930*77*X*004010~"
    ++ ascii "ST*997*0001~AK1*GF*42~AK2*990*0001~AK5*A~AK9*A*1*1*1~SE*6*0001~"
    ++ ascii "ST*997*0002~AK1*GF*42~AK2*990*0001~AK3*B1*2**8~AK4*1*140*5*ABCDE~AK5*R*5~AK9*R*1*1*0*3~SE*8*0002~"
    ++ ascii "GE*2*77~IEA*1*000000077~"

-- It is not refused, and its response is that one. Shut out: a GS for each group, SE01 counted over all 997s, code 23 for the second set, or code 3
-- in the first 997.
pub two_not_refused : refusal received_two sample_call ≡ 0
unfolding everything received_two
two_not_refused = refl

pub two_respond : response received_two sample_call ≡ sent_two
unfolding everything received_two sent_two
two_respond = refl

-- a faulty interchange: what stands after ISA, and its refusal
infix 20 ◌refused◌
pub data Faulty : Type 0 where
  ◌refused◌ : String → ℕ → Faulty

-- the table of faulty interchanges
unfoldable pub faulty : List Faulty
faulty =
    -- 7: no group, an inner GE missing, GE twice, a segment between groups, an empty one, a segment after the last GE
    ("IEA*0*000000042~" refused 7) ∷
    ("GS~GS~GE~IEA*2*000000042~" refused 7) ∷
    ("GS~GE~GE~IEA*1*000000042~" refused 7) ∷
    ("GS~GE~ST~GS~GE~IEA*2*000000042~" refused 7) ∷
    ("GS~GE~~GS~GE~IEA*2*000000042~" refused 7) ∷
    ("GS~GE~GS~GE~ST~IEA*2*000000042~" refused 7) ∷
    -- 8 counts the groups
    ("GS~GE~GS~GE~IEA*1*000000042~" refused 8) ∷
    -- the second group has no GE and no sets: 12
    ("GS*GF*CARRA*BROKB*20240315*0915*42*X*006010~ST*990*0001~GE*1*42~GS*GF*CARRA*BROKB*20240315*0915*43*X*006010~IEA*2*000000042~" refused 12) ∷
    -- 13 in the first group and 9 in the second, 10 in the second and 9 in the third
    ("GS*GF*CARRA*BROKB*20240315*0915*42*X*006010~ST*990*1~GE*1*42~GS~GE~IEA*2*000000042~" refused 13) ∷
    ("GS*GF*CARRA*BROKB*20240315*0915*42*X*006010~ST*990*0001~GE*1*42~GS*FA*CARRA*BROKB*20240315*0915*43*X*004010~GE*0*43~GS~GE~IEA*3*000000042~" refused 10) ∷
    -- sixteen groups pass 7 and 8, and seventeen do not pass 7
    ("GS~GE~GS~GE~GS~GE~GS~GE~GS~GE~GS~GE~GS~GE~GS~GE~GS~GE~GS~GE~GS~GE~GS~GE~GS~GE~GS~GE~GS~GE~GS~GE~IEA*16*000000042~" refused 9) ∷
    ("GS~GE~GS~GE~GS~GE~GS~GE~GS~GE~GS~GE~GS~GE~GS~GE~GS~GE~GS~GE~GS~GE~GS~GE~GS~GE~GS~GE~GS~GE~GS~GE~GS~IEA*17*000000042~" refused 7) ∷
    []

-- the interchange of a row, and its refusal
unfoldable pub received_of : Faulty → Bytes
received_of (rest refused n) =
    ascii "ISA*00*          *00*          *ZZ*CARRIERA       *ZZ*BROKERB        *240315*0915*U*00601*000000042*0*T*>~" ++ ascii rest

unfoldable pub refusal_of : Faulty → ℕ
refusal_of (rest refused n) = n

-- the interchange is refused with the number of the row
unfoldable pub is_refused : Faulty → Bool
is_refused f = not (eqb (refusal_of f) 0) && eqb (refusal (received_of f) sample_call) (refusal_of f)

-- Every row holds. Shut out: IEA01 compared with 1, 9 checked in all groups before 13, a limit of 15 or 17 groups.
pub all_refused : all is_refused faulty ≡ true
unfolding everything faulty received_of refusal_of is_refused
all_refused = refl
