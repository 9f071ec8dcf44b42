-- The block of a set: its notes, its codes and its segments, as written, are those that document 01 reports of the set at a place.
use Rattle.std.specs.Prelude.{if◌then◌else◌, is_none, is_some, Option, None, Some}
use Rattle.std.specs.Bool.{then_some}
use Rattle.std.specs.Option.{option_copied}
use denote.Ref.{Bor}
use mathlib.Core.Path.{◌≡◌, refl, sym, ap, ◌∙◌, subst⁻¹}
use mathlib.Core.Bool.{Bool, true, false, not, not-not}
use mathlib.Core.List.{List, [], ◌∷◌, ◌++◌, map, append-nil, append_assoc}
use Prim.Native.Nat.{ℕ, ◌+◌, ◌-◌, ◌<◌}
use native.Mathlib.Omega.{arith}
use borrow.Author.Tests.{ne_eqb}
use lib.Dec.{eqb}
use lib.ListN.{length, take, drop, length-append, length-take, length-drop}
use Rattle.rules.specs.Base.{Bytes, every, ascii, null, member}
use Rattle.rules.specs.Cutting.{Segment, field, split, segments}
use Rattle.rules.specs.Numbers.{decimal}
use Rattle.rules.specs.Tables.{Table}
use Rattle.tables.specs.Rows.{table_of}
use Rattle.rules.specs.Segments.{Note}
use Rattle.rules.specs.Sets.{Set, SetReport, segments_of, control_of, notes_in, set_codes, set_report, accepted}
use Rattle.rules.specs.Response.{fields_out, segment_out, out, ak2, ak3, ak3s, ak5, block}
use Rattle.rules.specs.declared.Delimiters.{Delimiters}
use Rattle.tables.specs.Reading.{Guide, Limits}
use Rattle.guides.specs.Choice.{place_of, table_at}
use Rattle.guides.specs.declared.Scope.{Scope}
use Rattle.guides.specs.declared.TableAt.{TableAt}
use Rattle.text.specs.Text.{index_of, part}
use Rattle.segments.proofs.Pieces.{segments_at}
use Rattle.sets.specs.Places.{set_at}
use Rattle.sets.specs.declared.SetAt.{SetAt}
use Rattle.sets.proofs.Sets.{SetIs, set_in, header_at}
use Rattle.verdicts.specs.Collecting.{codes_of, collected}
use Rattle.verdicts.specs.Verdicts.{trailer_if, set_code_rules}
use Rattle.verdicts.specs.declared.Codes.{Codes}
use Rattle.verdicts.proofs.Laws.{set_codes_lem}
use Rattle.findings.specs.Events.{flat, written}
use Rattle.findings.specs.Remaining.{events, remaining}
use Rattle.findings.specs.Steps.{start}
use Rattle.findings.proofs.Linked.{walk_notes}
use Rattle.findings.proofs.Told.{written_flat}
use Rattle.writing.specs.Over.{sat, Wrote, From}
use Rattle.writing.proofs.Over.{over_nil}
use Rattle.writing.proofs.Laws.{whole}
use Rattle.writing.proofs.Segments.{one, then as next}
use Rattle.notes.specs.Saying.{Tells}
use Rattle.notes.specs.declared.Told.{Told}
use Rattle.acknowledgment.specs.Writers.{TellsFrom, Measures}
use Rattle.acknowledgment.specs.Received.{table_by, Scoped, received_at, set_of, report_of, Untold, ReceivedIs}
use Rattle.acknowledgment.specs.declared.set_block.ReceivedSet.{ReceivedSet}
use Rattle.acknowledgment.specs.Surveys.{set_here, report_at, acceptance}

-- 1. The parts of a set.
-- These are the bytes of a set of n segments, of its header and, where it is closed, of its trailer.
pub record Parts (d : Delimiters) (s : Set) (closed : Bool) (n : ℕ) (bs st se : Bytes) : Type 0 where
  pub whole : segments_of s ≡ segments d bs
  pub header : split d.element st ≡ s.header
  pub trailer : trailer_if d.element (then_some closed se) ≡ s.trailer
  pub counted : n ≡ length (segments_of s)
  pub short : length bs < 9223372036854775808

-- the trailer of what is closed, by its bytes
pub trailer_by : (e : ℕ) (closed : Bool) (se : Bytes) → trailer_if e (then_some closed se) ≡ (if closed then Some (split e se) else None)
trailer_by e true se = refl
trailer_by e false se = refl

closed_by : (e : ℕ) (closed : Bool) (se : Bytes) → not closed ≡ is_none (trailer_if e (then_some closed se))
closed_by e true se = refl
closed_by e false se = refl

-- the bytes of what is lent
pub copied_if : (closed : Bool) (se : Bor Bytes) → option_copied (then_some closed se) ≡ then_some closed se.now
copied_if true se = refl
copied_if false se = refl

-- the parts at a place
pub parts_at : {d : Delimiters} {body bs st se : Bytes} {at : ℕ} {r : SetAt} → SetIs d body at r → length body < 9223372036854775808
    → bs ≡ take (r.end - at) (drop at body) → st ≡ take (r.header - at) (drop at body) → se ≡ take (r.end - 1 - r.trailer) (drop r.trailer body)
    → Parts d (set_in d body at r) r.closed r.segments bs st se
parts_at {r = r} is small p q t = record {
  whole = rw p is.whole;
  header = rw q (sym is.header);
  trailer = trailer_by _ r.closed _ ∙ rw t (sym is.trailer);
  counted = is.counted;
  short = rw p (simp (length-take, length-drop) (omega arith));
}

-- 2. The segments of a report.
-- AK2, the notes and AK5, one after the other, are the block of a report
block_written : {d : Delimiters} (r : SetReport) {told : Told} {n l m : ℕ} {o o₁ o₂ o₃ : Bytes}
    → From 0 (segment_out d (ak2 r)) n o o₁ → TellsFrom n d (ak3s r.notes) told o₁ o₂ → From told.length (segment_out d (ak5 r)) l o₂ o₃
    → m ≡ sat (told.segments + 2) → Tells d (block r) (record { length = l; segments = m }) o o₃
unfolding block
block_written {d} r a b c e =
    let number = b.number in
    record {
      text =
          whole
          (next d (ak2 r ∷ []) (ak3s r.notes ++ ak5 r ∷ []) (one d (ak2 r) a)
          (next d (ak3s r.notes) (ak5 r ∷ []) b.text (one d (ak5 r) c)));
      number = simp length-append (omega arith);
    }

-- the header of the set at a place
pub header_here : (d : Delimiters) (body : Bytes) (at end : ℕ) → at < length body → end ≡ at + index_of d.terminator (drop at body)
    → split d.element (take (end - at) (drop at body)) ≡ (set_here d body at).header
unfolding set_in
header_here d body at end h q = let e = segments_at d body at end h q in let f = header_at d body at _ h refl in cc

-- AK2 and AK5 are the block of an accepted set
pub acceptance_written : {d : Delimiters} (s : Set) {fields : Bytes} {n : ℕ} {o o₁ : Bytes} → fields ≡ fields_out d (field s.header 1 ∷ control_of s ∷ [])
    → Wrote (ascii "AK2" ++ fields ++ d.terminator ∷ segment_out d (ascii "AK5" ∷ ascii "A" ∷ [])) n o o₁
    → Tells d (acceptance s) (record { length = n; segments = 2 }) o o₁
unfolding acceptance out
acceptance_written {d} s {fields} p w =
    record { text = rw (append-nil, append_assoc (ascii "AK2" ++ fields_out d (field s.header 1 ∷ control_of s ∷ [])) (d.terminator ∷ [])) (rw p at w); number = omega arith }

-- and are as long as ST02 and fifteen bytes, where ST01 has three
pub acceptance_measured : {d : Delimiters} (s : Set) {st02 : Bytes} → length (field s.header 1) ≡ 3 → st02 ≡ control_of s
    → Measures d (acceptance s) (record { length = sat (15 + length st02); segments = 2 })
unfolding acceptance fields_out out
acceptance_measured s l q =
    record { text = record { count = simp length-append (omega (arith, l, ap length q)); bytes = sym (over_nil _) }; number = omega arith }

-- there are notes where the number of their segments is not 0
are_notes : (ns : List Note) {m : ℕ} → m ≡ sat (length (ak3s ns)) → not (eqb m 0) ≡ not (null ns)
unfolding ak3s ak3
are_notes [] e = rw e
are_notes (n ∷ ns) {m} e = ap not (ne_eqb m 0 (λ k. omega arith))

-- 3. The report of a set.
-- what stands nowhere is no table
pub there_is : (ids : List (List ℕ)) (rows : Guide) (t : Option TableAt) → is_some t ≡ not (is_none (table_at ids rows t))
there_is ids rows (Some t) = refl
there_is ids rows None = refl

-- a set without a table has a code
pub nowhere_rejects : (d : Delimiters) (s : Set) → false ≡ accepted (set_report d None [] s)
unfolding set_report set_codes every
nowhere_rejects d s = refl

module _ {d : Delimiters} {s : Set} {closed : Bool} {n : ℕ} {bs st se : Bytes} (parts : Parts d s closed n bs st se) where
  -- the codes by the parts of a set are its codes
  pub codes_are : {codes : Codes} {there noted repeated : Bool}
      → codes ≡ collected (set_code_rules (record { supported = there; segments = n; noted = noted; repeated = repeated }) (split d.element st) (trailer_if d.element (then_some closed se)))
      → (t : Option Table) (ns : List Note) (earlier : List Bytes) → there ≡ not (is_none t) → noted ≡ not (null ns)
      → repeated ≡ member (control_of s) earlier → codes_of codes ≡ set_codes t ns earlier s
  codes_are f t ns earlier p e g = rw f (set_codes_lem t ns earlier s _ p parts.header parts.trailer parts.counted e g)

  module _ (ids : List (List ℕ)) {rows : Guide} (limits : Limits rows) where
    abbrev notes : List Note
    notes = notes_in d (Some (table_of ids rows)) s

    -- the events of a walk through the set are its notes
    pub events_are : events (remaining bs d ids rows closed start) ≡ flat notes
    events_are =
        rw (walk_notes bs d ids rows closed limits parts.short (sym parts.whole), ← parts.trailer, ← closed_by d.element closed se, not-not closed)

    -- what the walk says is its notes
    pub notes_are : map written (events (remaining bs d ids rows closed start)) ≡ ak3s notes
    notes_are = rw events_are (written_flat _)

-- what is written of a set is the block of its report
pub block_of : {d : Delimiters} (st : Bytes) (s : Set) (t : Option Table) (earlier : List Bytes) (codes : Codes) {told : Told} {k l m : ℕ} {o o₁ o₂ o₃ : Bytes}
    → split d.element st ≡ s.header
    → From 0 (segment_out d (ascii "AK2" ∷ field (split d.element st) 1 ∷ field (split d.element st) 2 ∷ [])) k o o₁
    → TellsFrom k d (ak3s (notes_in d t s)) told o₁ o₂
    → (not (eqb told.segments 0) ≡ not (null (notes_in d t s)) → codes_of codes ≡ set_codes t (notes_in d t s) earlier s)
    → From told.length (segment_out d (ascii "AK5" ∷ (if null (codes_of codes) then ascii "A" else ascii "R") ∷ map decimal (codes_of codes))) l o₂ o₃
    → m ≡ sat (told.segments + 2)
    → Tells d (block (set_report d t earlier s)) (record { length = l; segments = m }) o o₃
unfolding set_report ak2 ak5
block_of {d} st s t earlier codes h a tells f c g =
    block_written _ (rw h at a) tells (rw (f (are_notes (notes_in d t s) tells.number)) at c) g

-- 4. A set as received.
-- it stands where it starts
pub at_start : {d : Delimiters} {body : Bytes} {at : ℕ} {r : SetAt} → SetIs d body at r → SetIs d body r.start r
at_start {d} {body} {r = r} is = subst⁻¹ (λ (x : ℕ). SetIs d body x r) is.starts is

module _ {d : Delimiters} {body : Bytes} {at : ℕ} {place : SetAt} (q : place ≡ set_at d body at) (is : SetIs d body at place) where
  pub received_is : {rows : Guide} {set : ReceivedSet} (scope : Scope) (repeated quiet : Bool) → set ≡ received_at d scope body place repeated quiet → Scoped rows scope
      → ReceivedIs d body rows set
  received_is scope repeated quiet e tables = rw e (record { is = at_start is; stands = tables _ })

  -- it has the report of the set at its place
  report_received : (ids : List (List ℕ)) (rows : Guide) (scope : Scope) (repeated quiet : Bool) (earlier : List Bytes)
      → report_of d ids rows body (received_at d scope body place repeated quiet) earlier ≡ report_at d (table_by ids rows scope) body at earlier
  report_received ids rows scope repeated quiet earlier =
      ap (λ (x : ℕ). set_report d (table_at ids rows (place_of scope (field (split d.element (part body x place.header)) 1))) earlier (set_in d body x place)) is.starts
      ∙ ap (λ (h : Segment). set_report d (table_at ids rows (place_of scope (field h 1))) earlier (set_in d body at place)) (sym is.header)
      ∙ ap (λ (r : SetAt). set_report d (table_by ids rows scope (set_in d body at r)) earlier (set_in d body at r)) q

  module _ (ids : List (List ℕ)) (rows : Guide) (scope : Scope) (repeated quiet : Bool) {set : ReceivedSet} (e : set ≡ received_at d scope body place repeated quiet) where
    -- what is written of it, or measured, is the block of that report
    pub block_received : (earlier : List Bytes) {r : Told} {o o' : Bytes}
        → (set.repeated ≡ member (control_of (set_of d body set)) earlier → Untold d ids rows body set → Tells d (block (report_of d ids rows body set earlier)) r o o')
        → repeated ≡ member (control_of (set_here d body at)) earlier → (quiet ≡ true → (report_at d (table_by ids rows scope) body at []).notes ≡ [])
        → Tells d (block (report_at d (table_by ids rows scope) body at earlier)) r o o'
    unfolding set_report
    block_received earlier w k u =
        let used : repeated ≡ member (control_of (set_in d body place.start place)) earlier =
        k
        ∙ ap (λ (r : SetAt). member (control_of (set_in d body at r)) earlier) (sym q)
        ∙ ap (λ (x : ℕ). member (control_of (set_in d body x place)) earlier) (sym is.starts) in
        let untold : Untold d ids rows body (received_at d scope body place repeated quiet) =
        λ h. ap (λ (r : SetReport). r.notes) (report_received ids rows scope repeated quiet []) ∙ u h in
        rw (← report_received ids rows scope repeated quiet earlier) ((rw e at w) used untold)
