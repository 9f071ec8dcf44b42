-- Every public function is determined: two outcomes that its contract allows for the same arguments coincide. A contract is read off the code
-- (`Reads.Post`): of the arguments, the result and what is lent at the exit. Of each function any program is shut out that has another outcome
-- than this one on any input, and a `requires`, by which a call would go without an outcome.
use mathlib.Core.Path.{◌≡◌, refl, sym, ap, ◌∙◌}
use mathlib.Core.List.{List, Mem}
use lib.ListN.{get_or}
use Prim.Native.Nat.{ℕ}
use denote.RattleType.{RattleType}
use denote.Param.Laws.{Laws}
use mir.Syntax.{Dict}
use Rattle.rules.specs.Base.{Bytes}
use Rattle.rules.specs.Cutting.{Segment}
use Rattle.rules.specs.declared.Delimiters.{Delimiters}
use Rattle.rules.specs.Answers.{Outcome}
use Rattle.rules.proofs.Facts.{once, once_answer}
use Rattle.writing.specs.Over.{Wrote, From}
use Rattle.writing.specs.declared.Piece.{Ghosts}
use Rattle.notes.specs.Saying.{Tells}
use Rattle.notes.specs.declared.Told.{Told}
use Rattle.rules.proofs.Delimiters.new.Reads as rules_delimiters_new
use Rattle.rules.proofs.Delimiters.separates_repetitions.Reads as rules_delimiters_separates_repetitions
use Rattle.rules.proofs.Delimiters.is_mark.Reads as rules_delimiters_is_mark
use Rattle.rules.proofs.Finding.new.Reads as rules_finding_new
use Rattle.rules.proofs.Refusal.number.Reads as rules_refusal_number
use Rattle.text.proofs.find_near.Reads as text_find_near
use Rattle.text.proofs.find.Reads as text_find
use Rattle.text.proofs.part.Reads as text_part
use Rattle.text.proofs.same_bytes.Reads as text_same_bytes
use Rattle.text.proofs.is_between.Reads as text_is_between
use Rattle.text.proofs.all_digits.Reads as text_all_digits
use Rattle.text.proofs.is_digits.Reads as text_is_digits
use Rattle.text.proofs.value.Reads as text_value
use Rattle.text.proofs.count_in.Reads as text_count_in
use Rattle.text.proofs.declares.Reads as text_declares
use Rattle.text.proofs.is_time.Reads as text_is_time
use Rattle.text.proofs.all_valid.Reads as text_all_valid
use Rattle.text.proofs.is_text.Reads as text_is_text
use Rattle.text.proofs.is_name.Reads as text_is_name
use Rattle.text.proofs.unsigned.Reads as text_unsigned
use Rattle.text.proofs.is_valid.Reads as text_is_valid
use Rattle.dates.proofs.is_day.Reads as dates_is_day
use Rattle.dates.proofs.is_date.Reads as dates_is_date
use Rattle.caller.proofs.check_call.Reads as caller_check_call
use Rattle.isa.proofs.read_isa.Reads as isa_read_isa
use Rattle.isa.proofs.is_terminated.Reads as isa_is_terminated
use Rattle.isa.proofs.isa_field.Reads as isa_isa_field
use Rattle.segments.proofs.field.Reads as segments_field
use Rattle.segments.proofs.id.Reads as segments_id
use Rattle.segments.proofs.is_named.Reads as segments_is_named
use Rattle.segments.proofs.is_present.Reads as segments_is_present
use Rattle.segments.proofs.field_count.Reads as segments_field_count
use Rattle.envelope.proofs.envelope_of.Reads as envelope_envelope_of
use Rattle.envelope.proofs.is_of_envelope.Reads as envelope_is_of_envelope
use Rattle.envelope.proofs.group_ending.Reads as envelope_group_ending
use Rattle.envelope.proofs.next_group.Reads as envelope_next_group
use Rattle.envelope.proofs.check_trailer.Reads as envelope_check_trailer
use Rattle.group_header.proofs.check_header.Reads as group_header_check_header
use Rattle.group_header.proofs.check_answerable.Reads as group_header_check_answerable
use Rattle.sets.proofs.next_set.Reads as sets_next_set
use Rattle.sets.proofs.check_sets.Reads as sets_check_sets
use Rattle.register.proofs.search.Reads as register_search
use Rattle.register.proofs.field_end.Reads as register_field_end
use Rattle.refusals.proofs.EnvelopeFaultFromTrailerFault.from.Reads as refusals_envelope_fault_from_trailer_fault_from
use Rattle.refusals.proofs.RefusalFromEnvelopeFault.from.Reads as refusals_refusal_from_envelope_fault_from
use Rattle.refusals.proofs.check_head.Reads as refusals_check_head
use Rattle.refusals.proofs.check_envelope.Reads as refusals_check_envelope
use Rattle.refusals.proofs.check_group.Reads as refusals_check_group
use Rattle.tables.proofs.is_segment.Reads as tables_is_segment
use Rattle.tables.proofs.is_element.Reads as tables_is_element
use Rattle.tables.proofs.is_note.Reads as tables_is_note
use Rattle.tables.proofs.below.Reads as tables_below
use Rattle.tables.proofs.most_uses.Reads as tables_most_uses
use Rattle.tables.proofs.element_at.Reads as tables_element_at
use Rattle.tables.proofs.relation_at.Reads as tables_relation_at
use Rattle.tables.proofs.places_at.Reads as tables_places_at
use Rattle.tables.proofs.reach.Reads as tables_reach
use Rattle.tables.proofs.next_mandatory.Reads as tables_next_mandatory
use Rattle.tables.proofs.has_values.Reads as tables_has_values
use Rattle.tables.proofs.is_listed.Reads as tables_is_listed
use Rattle.tables.proofs.id_at.Reads as tables_id_at
use Rattle.tables.proofs.is_known.Reads as tables_is_known
use Rattle.tables.proofs.is_entry.Reads as tables_is_entry
use Rattle.tables.proofs.next_due.Reads as tables_next_due
use Rattle.guides.proofs.directory.Reads as guides_directory
use Rattle.guides.proofs.rows.Reads as guides_rows
use Rattle.guides.proofs.Edition.has_tables.Reads as guides_edition_has_tables
use Rattle.guides.proofs.scope_of.Reads as guides_scope_of
use Rattle.guides.proofs.table_of.Reads as guides_table_of
use Rattle.verdicts.proofs.Codes.none.Reads as verdicts_codes_none
use Rattle.verdicts.proofs.Codes.is_empty.Reads as verdicts_codes_is_empty
use Rattle.verdicts.proofs.Verdict.byte.Reads as verdicts_verdict_byte
use Rattle.verdicts.proofs.set_codes.Reads as verdicts_set_codes
use Rattle.verdicts.proofs.summary_of.Reads as verdicts_summary_of
use Rattle.verdicts.proofs.closes.Reads as verdicts_closes
use Rattle.elements.proofs.PlaceCodes.lower.Reads as elements_place_codes_lower
use Rattle.elements.proofs.PlaceCodes.higher.Reads as elements_place_codes_higher
use Rattle.elements.proofs.PlaceCodes.finding.Reads as elements_place_codes_finding
use Rattle.elements.proofs.next_found.Reads as elements_next_found
use Rattle.elements.proofs.first_found.Reads as elements_first_found
use Rattle.elements.proofs.takes.Reads as elements_takes
use Rattle.elements.proofs.takes_length.Reads as elements_takes_length
use Rattle.elements.proofs.Marks.none.Reads as elements_marks_none
use Rattle.elements.proofs.Marks.with.Reads as elements_marks_with
use Rattle.elements.proofs.Marks.breaks_note.Reads as elements_marks_breaks_note
use Rattle.findings.proofs.start.Reads as findings_start
use Rattle.findings.proofs.next.Reads as findings_next
use Rattle.findings.proofs.next_missing.Reads as findings_next_missing
use Rattle.writing.proofs.U8Piece.put.Reads as writing_u8_piece_put
use Rattle.writing.proofs.RefSliceU8Piece.put.Reads as writing_ref_slice_u8_piece_put
use Rattle.writing.proofs.RefArrayU8Piece.put.Reads as writing_ref_array_u8_piece_put
use Rattle.writing.proofs.NumberPiece.put.Reads as writing_number_piece_put
use Rattle.writing.proofs.PaddedPiece.put.Reads as writing_padded_piece_put
use Rattle.writing.proofs.add.Reads as writing_add
use Rattle.writing.proofs.add_field.Reads as writing_add_field
use Rattle.writing.proofs.add_optional.Reads as writing_add_optional
use Rattle.writing.proofs.add_trailing.Reads as writing_add_trailing
use Rattle.writing.proofs.add_codes.Reads as writing_add_codes
use Rattle.writing.proofs.add_pair.Reads as writing_add_pair
use Rattle.response_envelope.proofs.add_isa.Reads as response_envelope_add_isa
use Rattle.response_envelope.proofs.add_gs.Reads as response_envelope_add_gs
use Rattle.response_envelope.proofs.add_ge.Reads as response_envelope_add_ge
use Rattle.response_envelope.proofs.add_iea.Reads as response_envelope_add_iea
use Rattle.blocks.proofs.add_st.Reads as blocks_add_st
use Rattle.blocks.proofs.add_ak1.Reads as blocks_add_ak1
use Rattle.blocks.proofs.add_ak2.Reads as blocks_add_ak2
use Rattle.blocks.proofs.add_ak5.Reads as blocks_add_ak5
use Rattle.blocks.proofs.add_ak9.Reads as blocks_add_ak9
use Rattle.blocks.proofs.add_se.Reads as blocks_add_se
use Rattle.blocks.proofs.put_acceptance.Reads as blocks_put_acceptance
use Rattle.notes.proofs.put_notes.Reads as notes_put_notes
use Rattle.other_table.proofs.x12_other_table_notes.Reads as other_table_x12_other_table_notes
use Rattle.acknowledgment.proofs.acknowledge.Reads as acknowledgment_acknowledge
use Rattle.interchange_acknowledgment.proofs.acknowledge_interchange.Reads as interchange_acknowledgment_acknowledge_interchange
use Rattle.x12.proofs.x12_acknowledge.Reads as x12_x12_acknowledge
use Rattle.x12.proofs.x12_acknowledge_interchange.Reads as x12_x12_acknowledge_interchange
use Rattle.exchange.proofs.exchange.Reads as exchange_exchange
use Rattle.program.proofs.run.Reads as program_run
use Rattle.look.proofs.valid_bytes.Reads as look_valid_bytes
use Rattle.look.proofs.look_at.Reads as look_look_at

-- 1. A function asks nothing of any arguments, and what a caller sees of its result and of what it lent is the same for any two outcomes that
-- its contract allows.
abbrev pub Determined {ℓ} : {K : Type ℓ} {A R S W : K → Type 0}
    → ((κs : K) → A κs → Type 0) → ((κs : K) → A κs → R κs → S κs → Type 0) → ((κs : K) → R κs → S κs → W κs) → Type ℓ
Determined {K = K} {A} {R} {S} pre post seen =
    ((κs : K) (a : A κs) → pre κs a)
    × ((κs : K) (a : A κs) (r₁ r₂ : R κs) (s₁ s₂ : S κs) → post κs a r₁ s₁ → post κs a r₂ s₂ → seen κs r₁ s₁ ≡ seen κs r₂ s₂)

-- The same of a function over any type of a trait: it asks what its type does, which is that what the type borrows lives as long as the call
-- (`Lives`), and nothing more.
abbrev pub DeterminedWhere {ℓ} : {K : Type ℓ} {A R S W : K → Type 0}
    → (K → Type 0) → ((κs : K) → A κs → Type 0) → ((κs : K) → A κs → R κs → S κs → Type 0) → ((κs : K) → R κs → S κs → W κs) → Type ℓ
DeterminedWhere {K = K} {A} {R} {S} lives pre post seen =
    ((κs : K) (a : A κs) → lives κs → pre κs a)
    × ((κs : K) (a : A κs) (r₁ r₂ : R κs) (s₁ s₂ : S κs) → post κs a r₁ s₁ → post κs a r₂ s₂ → seen κs r₁ s₁ ≡ seen κs r₂ s₂)

abbrev pub Lives : RattleType → List ℕ → Type 0
Lives P lifetime = (a : ℕ) → Mem a P.lives → Mem a lifetime

-- Of a function of arrays only that two outcomes coincide: its Pre says that an array has a size.
abbrev pub Coincides {ℓ} : {K : Type ℓ} {A R S W : K → Type 0}
    → ((κs : K) → A κs → R κs → S κs → Type 0) → ((κs : K) → R κs → S κs → W κs) → Type ℓ
Coincides {K = K} {A} {R} {S} post seen =
    (κs : K) (a : A κs) (r₁ r₂ : R κs) (s₁ s₂ : S κs) → post κs a r₁ s₁ → post κs a r₂ s₂ → seen κs r₁ s₁ ≡ seen κs r₂ s₂

-- what is seen so far, and one more that was lent to be written
abbrev pub beside : {R W : Type 0} → R → W → R × W
beside r w = (r, w)

wrote_once : {t o o₁ o₂ : Bytes} {n m : ℕ} → Wrote t n o o₁ → Wrote t m o o₂ → beside n o₁ ≡ beside m o₂
wrote_once p q = rw (p.count, q.count, p.bytes, q.bytes)

from_once : {t o o₁ o₂ : Bytes} {k n m : ℕ} → From k t n o o₁ → From k t m o o₂ → beside n o₁ ≡ beside m o₂
from_once p q = rw (p.count, q.count, p.bytes, q.bytes)

told_same : {n m k j : ℕ} {o₁ o₂ : Bytes} → n ≡ m → k ≡ j → o₁ ≡ o₂
    → ◌≡◌ {A = Told × Bytes} (record { length = n; segments = k }, o₁) (record { length = m; segments = j }, o₂)
told_same p q e = rw (p, q, e)

tells_once : {d : Delimiters} {ss : List Segment} {r₁ r₂ : Told} {o o₁ o₂ : Bytes} → Tells d ss r₁ o o₁ → Tells d ss r₂ o o₂ → beside r₁ o₁ ≡ beside r₂ o₂
tells_once p q =
    told_same (p.text.count ∙ sym q.text.count) (p.number ∙ sym q.number) (p.text.bytes ∙ sym q.text.bytes)

both_same : {R : Type 0} {r₁ r₂ : R} {o₁ o₂ : Bytes} → r₁ ≡ r₂ → o₁ ≡ o₂ → beside r₁ o₁ ≡ beside r₂ o₂
both_same p q = rw (p, q)

-- 2. The functions, crate by crate.
-- rules
rules_delimiters_new_once : Determined rules_delimiters_new.Pre rules_delimiters_new.Post (λ κs r s. r)
rules_delimiters_new_once = ((λ κs a. tt), λ κs a r₁ r₂ s₁ s₂ p q. p ∙ sym q)

rules_delimiters_separates_repetitions_once : Determined rules_delimiters_separates_repetitions.Pre rules_delimiters_separates_repetitions.Post (λ κs r s. r)
rules_delimiters_separates_repetitions_once = ((λ κs a. tt), λ κs a r₁ r₂ s₁ s₂ p q. p ∙ sym q)

rules_delimiters_is_mark_once : Determined rules_delimiters_is_mark.Pre rules_delimiters_is_mark.Post (λ κs r s. r)
rules_delimiters_is_mark_once = ((λ κs a. tt), λ κs a r₁ r₂ s₁ s₂ p q. p ∙ sym q)

rules_finding_new_once : Determined rules_finding_new.Pre rules_finding_new.Post (λ κs r s. r)
rules_finding_new_once = ((λ κs a. tt), λ κs a r₁ r₂ s₁ s₂ p q. p ∙ sym q)

rules_refusal_number_once : Determined rules_refusal_number.Pre rules_refusal_number.Post (λ κs r s. r)
rules_refusal_number_once = ((λ κs a. tt), λ κs a r₁ r₂ s₁ s₂ p q. p ∙ sym q)

-- text
text_find_near_once : Determined text_find_near.Pre text_find_near.Post (λ κs r s. r)
text_find_near_once = ((λ κs a. tt), λ κs a r₁ r₂ s₁ s₂ p q. p ∙ sym q)

text_find_once : Determined text_find.Pre text_find.Post (λ κs r s. r)
text_find_once = ((λ κs a. tt), λ κs a r₁ r₂ s₁ s₂ p q. p ∙ sym q)

text_part_once : Determined text_part.Pre text_part.Post (λ κs r s. r.now)
text_part_once = ((λ κs a. tt), λ κs a r₁ r₂ s₁ s₂ p q. p ∙ sym q)

text_same_bytes_once : Determined text_same_bytes.Pre text_same_bytes.Post (λ κs r s. r)
text_same_bytes_once = ((λ κs a. tt), λ κs a r₁ r₂ s₁ s₂ p q. p ∙ sym q)

text_is_between_once : Determined text_is_between.Pre text_is_between.Post (λ κs r s. r)
text_is_between_once = ((λ κs a. tt), λ κs a r₁ r₂ s₁ s₂ p q. p ∙ sym q)

text_all_digits_once : Determined text_all_digits.Pre text_all_digits.Post (λ κs r s. r)
text_all_digits_once = ((λ κs a. tt), λ κs a r₁ r₂ s₁ s₂ p q. p ∙ sym q)

text_is_digits_once : Determined text_is_digits.Pre text_is_digits.Post (λ κs r s. r)
text_is_digits_once = ((λ κs a. tt), λ κs a r₁ r₂ s₁ s₂ p q. p ∙ sym q)

text_value_once : Determined text_value.Pre text_value.Post (λ κs r s. r)
text_value_once = ((λ κs a. tt), λ κs a r₁ r₂ s₁ s₂ p q. p ∙ sym q)

text_count_in_once : Determined text_count_in.Pre text_count_in.Post (λ κs r s. r)
text_count_in_once = ((λ κs a. tt), λ κs a r₁ r₂ s₁ s₂ p q. p ∙ sym q)

text_declares_once : Determined text_declares.Pre text_declares.Post (λ κs r s. r)
text_declares_once = ((λ κs a. tt), λ κs a r₁ r₂ s₁ s₂ p q. p ∙ sym q)

text_is_time_once : Determined text_is_time.Pre text_is_time.Post (λ κs r s. r)
text_is_time_once = ((λ κs a. tt), λ κs a r₁ r₂ s₁ s₂ p q. p ∙ sym q)

text_all_valid_once : Determined text_all_valid.Pre text_all_valid.Post (λ κs r s. r)
text_all_valid_once = ((λ κs a. tt), λ κs a r₁ r₂ s₁ s₂ p q. p ∙ sym q)

text_is_text_once : Determined text_is_text.Pre text_is_text.Post (λ κs r s. r)
text_is_text_once = ((λ κs a. tt), λ κs a r₁ r₂ s₁ s₂ p q. p ∙ sym q)

text_is_name_once : Determined text_is_name.Pre text_is_name.Post (λ κs r s. r)
text_is_name_once = ((λ κs a. tt), λ κs a r₁ r₂ s₁ s₂ p q. p ∙ sym q)

text_unsigned_once : Determined text_unsigned.Pre text_unsigned.Post (λ κs r s. r.now)
text_unsigned_once = ((λ κs a. tt), λ κs a r₁ r₂ s₁ s₂ p q. p ∙ sym q)

-- dates
dates_is_day_once : Determined dates_is_day.Pre dates_is_day.Post (λ κs r s. r)
dates_is_day_once = ((λ κs a. tt), λ κs a r₁ r₂ s₁ s₂ p q. p ∙ sym q)

dates_is_date_once : Determined dates_is_date.Pre dates_is_date.Post (λ κs r s. r)
dates_is_date_once = ((λ κs a. tt), λ κs a r₁ r₂ s₁ s₂ p q. p ∙ sym q)

-- caller
caller_check_call_once : Determined caller_check_call.Pre caller_check_call.Post (λ κs r s. r)
caller_check_call_once = ((λ κs a. tt), λ κs a r₁ r₂ s₁ s₂ p q. p ∙ sym q)

-- isa
isa_read_isa_once : Determined isa_read_isa.Pre isa_read_isa.Post (λ κs r s. r)
isa_read_isa_once = ((λ κs a. tt), λ κs a r₁ r₂ s₁ s₂ p q. p ∙ sym q)

isa_is_terminated_once : Determined isa_is_terminated.Pre isa_is_terminated.Post (λ κs r s. r)
isa_is_terminated_once = ((λ κs a. tt), λ κs a r₁ r₂ s₁ s₂ p q. p ∙ sym q)

isa_isa_field_once : Determined isa_isa_field.Pre isa_isa_field.Post (λ κs r s. r.now)
isa_isa_field_once = ((λ κs a. tt), λ κs a r₁ r₂ s₁ s₂ p q. p ∙ sym q)

-- segments
segments_field_once : Determined segments_field.Pre segments_field.Post (λ κs r s. r.now)
segments_field_once = ((λ κs a. tt), λ κs a r₁ r₂ s₁ s₂ p q. p ∙ sym q)

segments_id_once : Determined segments_id.Pre segments_id.Post (λ κs r s. r.now)
segments_id_once = ((λ κs a. tt), λ κs a r₁ r₂ s₁ s₂ p q. p ∙ sym q)

segments_is_named_once : Determined segments_is_named.Pre segments_is_named.Post (λ κs r s. r)
segments_is_named_once = ((λ κs a. tt), λ κs a r₁ r₂ s₁ s₂ p q. p ∙ sym q)

segments_is_present_once : Determined segments_is_present.Pre segments_is_present.Post (λ κs r s. r)
segments_is_present_once = ((λ κs a. tt), λ κs a r₁ r₂ s₁ s₂ p q. p ∙ sym q)

segments_field_count_once : Determined segments_field_count.Pre segments_field_count.Post (λ κs r s. r)
segments_field_count_once = ((λ κs a. tt), λ κs a r₁ r₂ s₁ s₂ p q. p ∙ sym q)

-- envelope
envelope_envelope_of_once : Determined envelope_envelope_of.Pre envelope_envelope_of.Post (λ κs r s. r)
envelope_envelope_of_once = ((λ κs a. tt), λ κs a r₁ r₂ s₁ s₂ p q. p ∙ sym q)

envelope_is_of_envelope_once : Determined envelope_is_of_envelope.Pre envelope_is_of_envelope.Post (λ κs r s. r)
envelope_is_of_envelope_once = ((λ κs a. tt), λ κs a r₁ r₂ s₁ s₂ p q. p ∙ sym q)

envelope_group_ending_once : Determined envelope_group_ending.Pre envelope_group_ending.Post (λ κs r s. r)
envelope_group_ending_once = ((λ κs a. tt), λ κs a r₁ r₂ s₁ s₂ p q. p ∙ sym q)

envelope_next_group_once : Determined envelope_next_group.Pre envelope_next_group.Post (λ κs r s. r)
envelope_next_group_once = ((λ κs a. tt), λ κs a r₁ r₂ s₁ s₂ p q. p ∙ sym q)

envelope_check_trailer_once : Determined envelope_check_trailer.Pre envelope_check_trailer.Post (λ κs r s. r)
envelope_check_trailer_once = ((λ κs a. tt), λ κs a r₁ r₂ s₁ s₂ p q. p ∙ sym q)

-- group_header
group_header_check_header_once : Determined group_header_check_header.Pre group_header_check_header.Post (λ κs r s. r)
group_header_check_header_once = ((λ κs a. tt), λ κs a r₁ r₂ s₁ s₂ p q. p ∙ sym q)

group_header_check_answerable_once : Determined group_header_check_answerable.Pre group_header_check_answerable.Post (λ κs r s. r)
group_header_check_answerable_once = ((λ κs a. tt), λ κs a r₁ r₂ s₁ s₂ p q. p ∙ sym q)

-- sets
sets_next_set_once : Determined sets_next_set.Pre sets_next_set.Post (λ κs r s. r)
sets_next_set_once = ((λ κs a. tt), λ κs a r₁ r₂ s₁ s₂ p q. p ∙ sym q)

sets_check_sets_once : Determined sets_check_sets.Pre sets_check_sets.Post (λ κs r s. r)
sets_check_sets_once = ((λ κs a. tt), λ κs a r₁ r₂ s₁ s₂ p q. p ∙ sym q)

-- register
register_search_once : Determined register_search.Pre register_search.Post (λ κs r s. r)
register_search_once = ((λ κs a. tt), λ κs a r₁ r₂ s₁ s₂ p q. p ∙ sym q)

-- refusals
refusals_envelope_fault_from_trailer_fault_from_once : Determined refusals_envelope_fault_from_trailer_fault_from.Pre refusals_envelope_fault_from_trailer_fault_from.Post (λ κs r s. r)
refusals_envelope_fault_from_trailer_fault_from_once = ((λ κs a. tt), λ κs a r₁ r₂ s₁ s₂ p q. p ∙ sym q)

refusals_refusal_from_envelope_fault_from_once : Determined refusals_refusal_from_envelope_fault_from.Pre refusals_refusal_from_envelope_fault_from.Post (λ κs r s. r)
refusals_refusal_from_envelope_fault_from_once = ((λ κs a. tt), λ κs a r₁ r₂ s₁ s₂ p q. p ∙ sym q)

refusals_check_head_once : Determined refusals_check_head.Pre refusals_check_head.Post (λ κs r s. r)
refusals_check_head_once = ((λ κs a. tt), λ κs a r₁ r₂ s₁ s₂ p q. p ∙ sym q)

refusals_check_envelope_once : Determined refusals_check_envelope.Pre refusals_check_envelope.Post (λ κs r s. r)
refusals_check_envelope_once = ((λ κs a. tt), λ κs a r₁ r₂ s₁ s₂ p q. p ∙ sym q)

refusals_check_group_once : Determined refusals_check_group.Pre refusals_check_group.Post (λ κs r s. r)
refusals_check_group_once = ((λ κs a. tt), λ κs a r₁ r₂ s₁ s₂ p q. p ∙ sym q)

-- tables
tables_is_segment_once : Determined tables_is_segment.Pre tables_is_segment.Post (λ κs r s. r)
tables_is_segment_once = ((λ κs a. tt), λ κs a r₁ r₂ s₁ s₂ p q. p ∙ sym q)

tables_is_element_once : Determined tables_is_element.Pre tables_is_element.Post (λ κs r s. r)
tables_is_element_once = ((λ κs a. tt), λ κs a r₁ r₂ s₁ s₂ p q. p ∙ sym q)

tables_is_note_once : Determined tables_is_note.Pre tables_is_note.Post (λ κs r s. r)
tables_is_note_once = ((λ κs a. tt), λ κs a r₁ r₂ s₁ s₂ p q. p ∙ sym q)

tables_below_once : Determined tables_below.Pre tables_below.Post (λ κs r s. r)
tables_below_once = ((λ κs a. tt), λ κs a r₁ r₂ s₁ s₂ p q. p ∙ sym q)

tables_most_uses_once : Determined tables_most_uses.Pre tables_most_uses.Post (λ κs r s. r)
tables_most_uses_once = ((λ κs a. tt), λ κs a r₁ r₂ s₁ s₂ p q. p ∙ sym q)

tables_element_at_once : Determined tables_element_at.Pre tables_element_at.Post (λ κs r s. r)
tables_element_at_once = ((λ κs a. tt), λ κs a r₁ r₂ s₁ s₂ p q. p ∙ sym q)

tables_relation_at_once : Determined tables_relation_at.Pre tables_relation_at.Post (λ κs r s. r)
tables_relation_at_once = ((λ κs a. tt), λ κs a r₁ r₂ s₁ s₂ p q. p ∙ sym q)

tables_places_at_once : Determined tables_places_at.Pre tables_places_at.Post (λ κs r s. r)
tables_places_at_once = ((λ κs a. tt), λ κs a r₁ r₂ s₁ s₂ p q. p ∙ sym q)

tables_reach_once : Determined tables_reach.Pre tables_reach.Post (λ κs r s. r)
tables_reach_once = ((λ κs a. tt), λ κs a r₁ r₂ s₁ s₂ p q. p ∙ sym q)

tables_next_mandatory_once : Determined tables_next_mandatory.Pre tables_next_mandatory.Post (λ κs r s. r)
tables_next_mandatory_once = ((λ κs a. tt), λ κs a r₁ r₂ s₁ s₂ p q. p ∙ sym q)

tables_has_values_once : Determined tables_has_values.Pre tables_has_values.Post (λ κs r s. r)
tables_has_values_once = ((λ κs a. tt), λ κs a r₁ r₂ s₁ s₂ p q. p ∙ sym q)

tables_is_listed_once : Determined tables_is_listed.Pre tables_is_listed.Post (λ κs r s. r)
tables_is_listed_once = ((λ κs a. tt), λ κs a r₁ r₂ s₁ s₂ p q. p ∙ sym q)

tables_id_at_once : Determined tables_id_at.Pre tables_id_at.Post (λ κs r s. r)
tables_id_at_once = ((λ κs a. tt), λ κs a r₁ r₂ s₁ s₂ p q. p ∙ sym q)

tables_is_known_once : Determined tables_is_known.Pre tables_is_known.Post (λ κs r s. r)
tables_is_known_once = ((λ κs a. tt), λ κs a r₁ r₂ s₁ s₂ p q. p ∙ sym q)

-- guides
guides_directory_once : Determined guides_directory.Pre guides_directory.Post (λ κs r s. r)
guides_directory_once = ((λ κs a. tt), λ κs a r₁ r₂ s₁ s₂ p q. p ∙ sym q)

guides_rows_once : Determined guides_rows.Pre guides_rows.Post (λ κs r s. r)
guides_rows_once = ((λ κs a. tt), λ κs a r₁ r₂ s₁ s₂ p q. p ∙ sym q)

guides_edition_has_tables_once : Determined guides_edition_has_tables.Pre guides_edition_has_tables.Post (λ κs r s. r)
guides_edition_has_tables_once = ((λ κs a. tt), λ κs a r₁ r₂ s₁ s₂ p q. p ∙ sym q)

guides_scope_of_once : Determined guides_scope_of.Pre guides_scope_of.Post (λ κs r s. r)
guides_scope_of_once = ((λ κs a. tt), λ κs a r₁ r₂ s₁ s₂ p q. p ∙ sym q)

guides_table_of_once : Determined guides_table_of.Pre guides_table_of.Post (λ κs r s. r)
guides_table_of_once = ((λ κs a. tt), λ κs a r₁ r₂ s₁ s₂ p q. p ∙ sym q)

-- verdicts
verdicts_codes_none_once : Determined verdicts_codes_none.Pre verdicts_codes_none.Post (λ κs r s. r)
verdicts_codes_none_once = ((λ κs a. tt), λ κs a r₁ r₂ s₁ s₂ p q. p ∙ sym q)

verdicts_codes_is_empty_once : Determined verdicts_codes_is_empty.Pre verdicts_codes_is_empty.Post (λ κs r s. r)
verdicts_codes_is_empty_once = ((λ κs a. tt), λ κs a r₁ r₂ s₁ s₂ p q. p ∙ sym q)

verdicts_verdict_byte_once : Determined verdicts_verdict_byte.Pre verdicts_verdict_byte.Post (λ κs r s. r)
verdicts_verdict_byte_once = ((λ κs a. tt), λ κs a r₁ r₂ s₁ s₂ p q. ap (λ (l : Bytes). get_or l 0 0) (p ∙ sym q))

verdicts_set_codes_once : Determined verdicts_set_codes.Pre verdicts_set_codes.Post (λ κs r s. r)
verdicts_set_codes_once = ((λ κs a. tt), λ κs a r₁ r₂ s₁ s₂ p q. p ∙ sym q)

verdicts_summary_of_once : Determined verdicts_summary_of.Pre verdicts_summary_of.Post (λ κs r s. r)
verdicts_summary_of_once = ((λ κs a. tt), λ κs a r₁ r₂ s₁ s₂ p q. p ∙ sym q)

-- elements
elements_place_codes_lower_once : Determined elements_place_codes_lower.Pre elements_place_codes_lower.Post (λ κs r s. r)
elements_place_codes_lower_once = ((λ κs a. tt), λ κs a r₁ r₂ s₁ s₂ p q. p ∙ sym q)

elements_place_codes_higher_once : Determined elements_place_codes_higher.Pre elements_place_codes_higher.Post (λ κs r s. r)
elements_place_codes_higher_once = ((λ κs a. tt), λ κs a r₁ r₂ s₁ s₂ p q. p ∙ sym q)

elements_place_codes_finding_once : Determined elements_place_codes_finding.Pre elements_place_codes_finding.Post (λ κs r s. r)
elements_place_codes_finding_once = ((λ κs a. tt), λ κs a r₁ r₂ s₁ s₂ p q. p ∙ sym q)

elements_next_found_once : Determined elements_next_found.Pre elements_next_found.Post (λ κs r s. r)
elements_next_found_once = ((λ κs a. tt), λ κs a r₁ r₂ s₁ s₂ p q. p ∙ sym q)

elements_first_found_once : Determined elements_first_found.Pre elements_first_found.Post (λ κs r s. r)
elements_first_found_once = ((λ κs a. tt), λ κs a r₁ r₂ s₁ s₂ p q. p ∙ sym q)

elements_takes_once : Determined elements_takes.Pre elements_takes.Post (λ κs r s. r)
elements_takes_once = ((λ κs a. tt), λ κs a r₁ r₂ s₁ s₂ p q. p ∙ sym q)

elements_takes_length_once : Determined elements_takes_length.Pre elements_takes_length.Post (λ κs r s. r)
elements_takes_length_once = ((λ κs a. tt), λ κs a r₁ r₂ s₁ s₂ p q. p ∙ sym q)

elements_marks_none_once : Determined elements_marks_none.Pre elements_marks_none.Post (λ κs r s. r)
elements_marks_none_once = ((λ κs a. tt), λ κs a r₁ r₂ s₁ s₂ p q. p ∙ sym q)

elements_marks_with_once : Determined elements_marks_with.Pre elements_marks_with.Post (λ κs r s. r)
elements_marks_with_once = ((λ κs a. tt), λ κs a r₁ r₂ s₁ s₂ p q. p ∙ sym q)

elements_marks_breaks_note_once : Determined elements_marks_breaks_note.Pre elements_marks_breaks_note.Post (λ κs r s. r)
elements_marks_breaks_note_once = ((λ κs a. tt), λ κs a r₁ r₂ s₁ s₂ p q. p ∙ sym q)

-- findings
findings_start_once : Determined findings_start.Pre findings_start.Post (λ κs r s. r)
findings_start_once = ((λ κs a. tt), λ κs a r₁ r₂ s₁ s₂ p q. p ∙ sym q)

findings_next_once : Determined findings_next.Pre findings_next.Post (λ κs r s. r)
findings_next_once = ((λ κs a. tt), λ κs a r₁ r₂ s₁ s₂ p q. p ∙ sym q)

findings_next_missing_once : Determined findings_next_missing.Pre findings_next_missing.Post (λ κs r s. r)
findings_next_missing_once = ((λ κs a. tt), λ κs a r₁ r₂ s₁ s₂ p q. p ∙ sym q)

-- writing
-- each piece
writing_u8_piece_put_once : Determined writing_u8_piece_put.Pre writing_u8_piece_put.Post (λ κs r s. beside r s.1.0.now)
writing_u8_piece_put_once = ((λ κs a. tt), λ κs a r₁ r₂ s₁ s₂ p q. wrote_once p q)

writing_ref_slice_u8_piece_put_once : Determined writing_ref_slice_u8_piece_put.Pre writing_ref_slice_u8_piece_put.Post (λ κs r s. beside r s.1.0.now)
writing_ref_slice_u8_piece_put_once = ((λ κs a. tt), λ κs a r₁ r₂ s₁ s₂ p q. wrote_once p q)

writing_ref_array_u8_piece_put_once : (N : _) (F : _) → Coincides (writing_ref_array_u8_piece_put.Post N F) (λ κs r s. beside r s.1.0.now)
writing_ref_array_u8_piece_put_once N F = λ κs a r₁ r₂ s₁ s₂ p q. wrote_once p q

writing_number_piece_put_once : Determined writing_number_piece_put.Pre writing_number_piece_put.Post (λ κs r s. beside r s.1.0.now)
writing_number_piece_put_once = ((λ κs a. tt), λ κs a r₁ r₂ s₁ s₂ p q. wrote_once p q)

writing_padded_piece_put_once : Determined writing_padded_piece_put.Pre writing_padded_piece_put.Post (λ κs r s. beside r s.1.0.now)
writing_padded_piece_put_once = ((λ κs a. tt), λ κs a r₁ r₂ s₁ s₂ p q. wrote_once p q)

writing_add_once : (P : RattleType) (L : Laws P) (G : Ghosts P.Denot) (w : Dict) → DeterminedWhere (λ κs. Lives P κs.1.0) (writing_add.Pre P L G w) (writing_add.Post P L G w) (λ κs r s. beside r s.0.now)
writing_add_once P L G w = ((λ κs a lives. lives), λ κs a r₁ r₂ s₁ s₂ p q. from_once p q)

writing_add_field_once : (P : RattleType) (L : Laws P) (G : Ghosts P.Denot) (w : Dict) → DeterminedWhere (λ κs. Lives P κs.1.0) (writing_add_field.Pre P L G w) (writing_add_field.Post P L G w) (λ κs r s. beside r s.0.now)
writing_add_field_once P L G w = ((λ κs a lives. lives), λ κs a r₁ r₂ s₁ s₂ p q. from_once p q)

writing_add_optional_once : Determined writing_add_optional.Pre writing_add_optional.Post (λ κs r s. beside r s.0.now)
writing_add_optional_once = ((λ κs a. tt), λ κs a r₁ r₂ s₁ s₂ p q. from_once p q)

writing_add_trailing_once : Determined writing_add_trailing.Pre writing_add_trailing.Post (λ κs r s. beside r s.0.now)
writing_add_trailing_once = ((λ κs a. tt), λ κs a r₁ r₂ s₁ s₂ p q. from_once p q)

writing_add_codes_once : Determined writing_add_codes.Pre writing_add_codes.Post (λ κs r s. beside r s.0.now)
writing_add_codes_once = ((λ κs a. tt), λ κs a r₁ r₂ s₁ s₂ p q. from_once p q)

writing_add_pair_once : Determined writing_add_pair.Pre writing_add_pair.Post (λ κs r s. beside r s.0.now)
writing_add_pair_once = ((λ κs a. tt), λ κs a r₁ r₂ s₁ s₂ p q. from_once p q)

-- response_envelope
response_envelope_add_isa_once : Determined response_envelope_add_isa.Pre response_envelope_add_isa.Post (λ κs r s. beside r s.0.now)
response_envelope_add_isa_once = ((λ κs a. tt), λ κs a r₁ r₂ s₁ s₂ p q. from_once p q)

response_envelope_add_gs_once : Determined response_envelope_add_gs.Pre response_envelope_add_gs.Post (λ κs r s. beside r s.0.now)
response_envelope_add_gs_once = ((λ κs a. tt), λ κs a r₁ r₂ s₁ s₂ p q. from_once p q)

response_envelope_add_ge_once : Determined response_envelope_add_ge.Pre response_envelope_add_ge.Post (λ κs r s. beside r s.0.now)
response_envelope_add_ge_once = ((λ κs a. tt), λ κs a r₁ r₂ s₁ s₂ p q. from_once p q)

response_envelope_add_iea_once : Determined response_envelope_add_iea.Pre response_envelope_add_iea.Post (λ κs r s. beside r s.0.now)
response_envelope_add_iea_once = ((λ κs a. tt), λ κs a r₁ r₂ s₁ s₂ p q. from_once p q)

-- blocks
blocks_add_st_once : Determined blocks_add_st.Pre blocks_add_st.Post (λ κs r s. beside r s.0.now)
blocks_add_st_once = ((λ κs a. tt), λ κs a r₁ r₂ s₁ s₂ p q. from_once p q)

blocks_add_ak1_once : Determined blocks_add_ak1.Pre blocks_add_ak1.Post (λ κs r s. beside r s.0.now)
blocks_add_ak1_once = ((λ κs a. tt), λ κs a r₁ r₂ s₁ s₂ p q. from_once p q)

blocks_add_ak2_once : Determined blocks_add_ak2.Pre blocks_add_ak2.Post (λ κs r s. beside r s.0.now)
blocks_add_ak2_once = ((λ κs a. tt), λ κs a r₁ r₂ s₁ s₂ p q. from_once p q)

blocks_add_ak5_once : Determined blocks_add_ak5.Pre blocks_add_ak5.Post (λ κs r s. beside r s.0.now)
blocks_add_ak5_once = ((λ κs a. tt), λ κs a r₁ r₂ s₁ s₂ p q. from_once p q)

blocks_add_ak9_once : Determined blocks_add_ak9.Pre blocks_add_ak9.Post (λ κs r s. beside r s.0.now)
blocks_add_ak9_once = ((λ κs a. tt), λ κs a r₁ r₂ s₁ s₂ p q. from_once p q)

blocks_add_se_once : Determined blocks_add_se.Pre blocks_add_se.Post (λ κs r s. beside r s.0.now)
blocks_add_se_once = ((λ κs a. tt), λ κs a r₁ r₂ s₁ s₂ p q. from_once p q)

-- notes
notes_put_notes_once : Determined notes_put_notes.Pre notes_put_notes.Post (λ κs r s. beside r s.0.now)
notes_put_notes_once = ((λ κs a. tt), λ κs a r₁ r₂ s₁ s₂ p q. tells_once p q)

-- other_table
other_table_x12_other_table_notes_once : Determined other_table_x12_other_table_notes.Pre other_table_x12_other_table_notes.Post (λ κs r s. beside r s.1.0.now)
other_table_x12_other_table_notes_once = ((λ κs a. tt), λ κs a r₁ r₂ s₁ s₂ p q. wrote_once p q)

-- acknowledgment
acknowledgment_acknowledge_once : Determined acknowledgment_acknowledge.Pre acknowledgment_acknowledge.Post (λ κs r s. beside r s.1.0.now)
acknowledgment_acknowledge_once =
    ((λ κs a. tt), λ κs a r₁ r₂ s₁ s₂ p q. both_same (once_answer _ _ _ _ _ _ p q) (ap (λ (o : Outcome). o.buffer) (once _ _ _ _ _ _ p q)))

-- interchange_acknowledgment
interchange_acknowledgment_acknowledge_interchange_once : Determined interchange_acknowledgment_acknowledge_interchange.Pre interchange_acknowledgment_acknowledge_interchange.Post (λ κs r s. beside r s.1.0.now)
interchange_acknowledgment_acknowledge_interchange_once =
    ((λ κs a. tt), λ κs a r₁ r₂ s₁ s₂ p q. both_same (once_answer _ _ _ _ _ _ p q) (ap (λ (o : Outcome). o.buffer) (once _ _ _ _ _ _ p q)))

-- x12
x12_x12_acknowledge_once : Determined x12_x12_acknowledge.Pre x12_x12_acknowledge.Post (λ κs r s. beside (beside r s.1.0.now) s.1.1.1.1.1.0.now)
x12_x12_acknowledge_once =
    ((λ κs a. tt), λ κs a r₁ r₂ s₁ s₂ p q. ap (λ (o : Outcome). beside (beside o.number o.buffer) o.size) (p ∙ sym q))

x12_x12_acknowledge_interchange_once : Determined x12_x12_acknowledge_interchange.Pre x12_x12_acknowledge_interchange.Post (λ κs r s. beside (beside r s.1.0.now) s.1.1.1.1.1.0.now)
x12_x12_acknowledge_interchange_once =
    ((λ κs a. tt), λ κs a r₁ r₂ s₁ s₂ p q. ap (λ (o : Outcome). beside (beside o.number o.buffer) o.size) (p ∙ sym q))

-- exchange
exchange_exchange_once : Determined exchange_exchange.Pre exchange_exchange.Post (λ κs r s. beside r s.1.1.0.now)
exchange_exchange_once = ((λ κs a. tt), λ κs a r₁ r₂ s₁ s₂ p q. both_same (p.0 ∙ sym q.0) (p.1 ∙ sym q.1))

-- program: nothing comes back and nothing is lent to be written
program_run_once : Determined program_run.Pre program_run.Post (λ κs r s. r)
program_run_once = ((λ κs a. tt), λ κs a r₁ r₂ s₁ s₂ p q. refl)

blocks_put_acceptance_once : Determined blocks_put_acceptance.Pre blocks_put_acceptance.Post (λ κs r s. beside r s.0.now)
blocks_put_acceptance_once = ((λ κs a. tt), λ κs a r₁ r₂ s₁ s₂ p q. wrote_once p q)

look_valid_bytes_once : Determined look_valid_bytes.Pre look_valid_bytes.Post (λ κs r s. r)
look_valid_bytes_once = ((λ κs a. tt), λ κs a r₁ r₂ s₁ s₂ p q. p ∙ sym q)

look_look_at_once : Determined look_look_at.Pre look_look_at.Post (λ κs r s. r)
look_look_at_once = ((λ κs a. tt), λ κs a r₁ r₂ s₁ s₂ p q. p ∙ sym q)

register_field_end_once : Determined register_field_end.Pre register_field_end.Post (λ κs r s. r)
register_field_end_once = ((λ κs a. tt), λ κs a r₁ r₂ s₁ s₂ p q. p ∙ sym q)

tables_is_entry_once : Determined tables_is_entry.Pre tables_is_entry.Post (λ κs r s. r)
tables_is_entry_once = ((λ κs a. tt), λ κs a r₁ r₂ s₁ s₂ p q. p ∙ sym q)

tables_next_due_once : Determined tables_next_due.Pre tables_next_due.Post (λ κs r s. r)
tables_next_due_once = ((λ κs a. tt), λ κs a r₁ r₂ s₁ s₂ p q. p ∙ sym q)

text_is_valid_once : Determined text_is_valid.Pre text_is_valid.Post (λ κs r s. r)
text_is_valid_once = ((λ κs a. tt), λ κs a r₁ r₂ s₁ s₂ p q. p ∙ sym q)

verdicts_closes_once : Determined verdicts_closes.Pre verdicts_closes.Post (λ κs r s. r)
verdicts_closes_once = ((λ κs a. tt), λ κs a r₁ r₂ s₁ s₂ p q. p ∙ sym q)
