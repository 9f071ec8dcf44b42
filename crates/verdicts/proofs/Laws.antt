-- The codes of a set and of a group are those of document 01.
use Rattle.std.specs.Prelude.{if◌then◌else◌, unwrap_or, is_none, is_some, Option, None, Some}
use Rattle.std.specs.Option.{option_copied}
use denote.Ref.{Bor}
use Prim.Native.Nat.{ℕ}
use mathlib.Core.Path.{◌≡◌, refl, sym, ap, ◌∙◌}
use mathlib.Core.Bool.{Bool, true, false, ◌||◌, not, not-not}
use mathlib.Core.List.{List, [], ◌∷◌}
use lib.Dec.{lit≤, eqb}
use lib.ListN.{length, get_or}
use Rattle.rules.specs.Base.{Bytes, null, ascii, same, member}
use Rattle.rules.specs.Cutting.{Segment}
use Rattle.rules.specs.Tables.{Table}
use Rattle.rules.specs.Segments.{Note}
use Rattle.rules.specs.Sets.{Set, segments_of, control_of, set_codes, declared_in}
use Rattle.rules.specs.Groups.{Group, sets, group_codes, verdict}
use Rattle.guides.specs.Choice.{scope_in}
use Rattle.guides.specs.declared.Scope.{Scope}
use Rattle.guides.proofs.Chosen.{edition_known}
use Rattle.verdicts.specs.Collecting.{codes_of, collected}
use Rattle.verdicts.specs.Verdicts.{trailer_if, set_code_rules, group_code_rules, summary_by, summary_of}
use Rattle.verdicts.specs.declared.Codes.{Codes}
use Rattle.verdicts.specs.declared.SetFacts.{SetFacts}
use Rattle.verdicts.specs.declared.Tally.{Tally}
use Rattle.verdicts.proofs.Collected.{collected_codes}

-- there is no trailer where there are no bytes of one, as r says
pub no_trailer : (e : ℕ) (o : Option (Bor Bytes)) {r : Bool} → is_some o ≡ not r → r ≡ is_none (trailer_if e (option_copied o))
no_trailer e None {r} p = sym (not-not r) ∙ ap not (sym p)
no_trailer e (Some t) {r} p = sym (not-not r) ∙ ap not (sym p)

-- AK5
pub set_codes_lem : (t : Option Table) (notes : List Note) (earlier : List Bytes) (s : Set) (set : SetFacts) {st : Segment} {se : Option Segment}
    → set.supported ≡ not (is_none t) → st ≡ s.header → se ≡ s.trailer → set.segments ≡ length (segments_of s)
    → set.noted ≡ not (null notes) → set.repeated ≡ member (control_of s) earlier
    → codes_of (collected (set_code_rules set st se)) ≡ set_codes t notes earlier s
unfolding set_code_rules set_codes
set_codes_lem None notes earlier s set p q r e f g = rw (p, q, r, e, f, g) (collected_codes _ (lit≤ tt))
set_codes_lem (Some t) notes earlier s set p q r e f g = rw (p, q, r, e, f, g) (collected_codes _ (lit≤ tt))

-- AK9
pub group_codes_lem : (g : Group) {gs : Segment} {ge : Option Segment} {n : ℕ} → gs ≡ g.header → ge ≡ g.trailer → n ≡ length (sets g)
    → codes_of (collected (group_code_rules (scope_in gs) gs ge n)) ≡ group_codes g
unfolding group_code_rules group_codes scope_in
group_codes_lem g p q r = rw (p, q, r, edition_known, not-not) (collected_codes _ (lit≤ tt))

-- AK901 is one byte
pub verdict_byte : (codes : List ℕ) (received ok : ℕ) → get_or (verdict codes received ok) 0 0 ∷ [] ≡ verdict codes received ok
verdict_byte codes received ok = go (not (null codes) || eqb ok 0) (eqb ok received)
  where
    go : (p q : Bool) → get_or (if p then ascii "R" else (if q then ascii "A" else ascii "P")) 0 0 ∷ [] ≡ (if p then ascii "R" else (if q then ascii "A" else ascii "P"))
    go true q = refl
    go false true = refl
    go false false = refl

-- the summary, part by part
pub summary_made : (scope : Scope) (gs : Segment) (ge : Option Segment) (sets : Tally) {codes : Codes} {v included allowed : ℕ}
    → codes ≡ collected (group_code_rules scope gs ge sets.received) → v ∷ [] ≡ verdict (codes_of codes) sets.received sets.accepted
    → included ≡ unwrap_or (declared_in 6 ge) sets.received → allowed ≡ (if same (v ∷ []) (ascii "R") then 0 else sets.accepted)
    → record { verdict = v; included = included; received = sets.received; allowed = allowed; codes = codes } ≡ summary_of scope gs ge sets
unfolding summary_of summary_by
summary_made scope gs ge sets {v = v} p q r s = rw (← p, ← q, r, s)
