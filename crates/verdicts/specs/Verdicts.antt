-- What a set's codes and a group's summary are decided by: trailers, and the rules of both.
use Rattle.std.specs.Prelude.{ℕ, Bool, not, List, [], ◌∷◌, map, get_or, if◌then◌else◌, unwrap_or, is_none, Option}
use Rattle.std.specs.Option.{option_map}
use Rattle.rules.specs.Base.{Bytes, Rule, ◌⇒◌, holds, ascii, same}
use Rattle.rules.specs.Cutting.{Segment, field, split}
use Rattle.rules.specs.Numbers.{declares, decimal}
use Rattle.rules.specs.Sets.{declared_in}
use Rattle.rules.specs.Groups.{verdict}
use Rattle.guides.specs.Choice.{has_tables}
use Rattle.guides.specs.declared.Scope.{Scope}
use Rattle.verdicts.specs.Collecting.{codes_of, collected}
use Rattle.verdicts.specs.declared.Codes.{Codes}
use Rattle.verdicts.specs.declared.SetFacts.{SetFacts}
use Rattle.verdicts.specs.declared.Summary.{Summary}
use Rattle.verdicts.specs.declared.Tally.{Tally}
use Rattle.verdicts.specs.declared.Verdict.{Verdict}
use Rattle.verdicts.specs.declared.Verdict.TheVariants.{Accepted, Partly, Rejected}

-- the trailer of what has one, by its bytes and its separator
abbrev pub trailer_if : ℕ → Option Bytes → Option Segment
trailer_if e = option_map (split e)

-- there is a trailer with another control number
abbrev pub other_control : Bytes → Option Segment → Bool
other_control control = holds (λ s. not (same (field s 2) control))

-- there is a trailer that does not declare n in at most hi digits
abbrev pub other_count : ℕ → ℕ → Option Segment → Bool
other_count hi n = holds (λ s. not (declares hi (field s 1) n))

-- the rules of AK5, by ST and SE
unfoldable pub set_code_rules : SetFacts → Segment → Option Segment → List Rule
set_code_rules set st se =
    (not set.supported ⇒ 1) ∷
    (is_none se ⇒ 2) ∷
    (other_control (field st 2) se ⇒ 3) ∷
    (other_count 10 set.segments se ⇒ 4) ∷
    (set.noted ⇒ 5) ∷
    (set.repeated ⇒ 23) ∷
    []

-- the rules of AK9, by the scope, GS and GE
unfoldable pub group_code_rules : Scope → Segment → Option Segment → ℕ → List Rule
group_code_rules scope gs ge sets =
    (not scope.supported ⇒ 1) ∷
    (not (has_tables scope.edition) ⇒ 2) ∷
    (is_none ge ⇒ 3) ∷
    (other_control (field gs 6) ge ⇒ 4) ∷
    (other_count 6 sets ge ⇒ 5) ∷
    []

-- AK901 as it is written
abbrev pub verdict_out : Verdict → Bytes
verdict_out Accepted = ascii "A"
verdict_out Partly = ascii "P"
verdict_out Rejected = ascii "R"

-- AK901 to AK904 and the codes of a group, where AK901 is the one byte of the law's verdict
unfoldable pub summary_by : Codes → Option Segment → Tally → Summary
summary_by codes ge sets =
    let v = verdict (codes_of codes) sets.received sets.accepted in
    record {
      verdict = get_or v 0 0;
      included = unwrap_or (declared_in 6 ge) sets.received;
      received = sets.received;
      allowed = if same v (ascii "R") then 0 else sets.accepted;
      codes = codes;
    }

unfoldable pub summary_of : Scope → Segment → Option Segment → Tally → Summary
summary_of scope gs ge sets = summary_by (collected (group_code_rules scope gs ge sets.received)) ge sets

-- AK9
abbrev pub summary_out : Summary → Segment
summary_out s =
    ascii "AK9" ∷ (s.verdict ∷ []) ∷ decimal s.included ∷ decimal s.received ∷ decimal s.allowed
    ∷ map decimal (codes_of s.codes)
