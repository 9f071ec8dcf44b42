-- Every definition of specs/ that is shut, opened at once: a theorem under `unfolding everything` computes.
use Rattle.rules.specs.Base.{same, all, any, keep, front, last, first, every}
use Rattle.rules.specs.Cutting.{pieces, split, segments, separators, fields_at, isa, knows_repetition, repetition_in, delimiters, marks, separates_repetitions, valid, text}
use Rattle.rules.specs.Numbers.{digits, value_from, value, count_in, padded, digits_of, decimal, leap, month_length, is_day, is_date, two, is_time}
use Rattle.rules.specs.Tables.{directory, st_rows, st_rows6, se_rows, b1_rows, l11_rows, l11_notes, k1_rows, table006010, table004010, edition_table, set_table}
use Rattle.rules.specs.Elements.{element_code, after_present, lacks, shuts_out, longest_echo, echo_of, place_codes, findings_from, findings}
use Rattle.rules.specs.Segments.{index_from, standing, missing, echoed, segment_note, walk, notes_of}
use Rattle.rules.specs.Sets.{body_of, trailer_of, sets_of, outside, inside, set_codes, set_report}
use Rattle.rules.specs.Groups.{group_with, cut_after_ge, groups_of, table_in, set_reports, group_codes, group_report}
use Rattle.rules.specs.Refusals.{good_call, call_rules, has_isa, distinct, good_marks, good_isa, head_rules, end_rules, enveloped, envelope_rules, trailer_rules, good_gs, header_rules, answer_rules, good_st, set_rules, group_rules, groups_rules, refusal_rules, refusal}
use Rattle.rules.specs.Refused.{refused, unless}
use Rattle.rules.specs.Response.{fields_out, out, trailing, ak4, ak3, ak3s, ak2, ak5, block, blocks, ak1, ak9, st_out, se_out, told, transaction_set, transaction_sets, isa_out, gs_out, ge_out, iea_out, respond, response}
use Rattle.rules.specs.InterchangeAcknowledgment.{note_code_rules, interchange_verdict, interchange_rules, interchange_refusal, ta1, interchange_respond, interchange_response}
use Rattle.rules.specs.Answers.{answer, called}
use Rattle.rules.specs.Program.{parted, is_call, refused_text, printed_call, printed, ack_prints, ta1_prints}

unfoldable pub everything : Unit {0}
unfolding same all any keep front last first every pieces split segments separators fields_at isa knows_repetition repetition_in delimiters marks separates_repetitions valid text digits value_from value count_in padded digits_of decimal leap month_length is_day is_date two is_time directory st_rows st_rows6 se_rows b1_rows l11_rows l11_notes k1_rows table006010 table004010 edition_table set_table element_code after_present lacks shuts_out longest_echo echo_of place_codes findings_from findings index_from standing missing echoed segment_note walk notes_of body_of trailer_of sets_of outside inside set_codes set_report group_with cut_after_ge groups_of table_in set_reports group_codes group_report good_call call_rules has_isa distinct good_marks good_isa head_rules end_rules enveloped envelope_rules trailer_rules good_gs header_rules answer_rules good_st set_rules group_rules groups_rules refusal_rules refusal refused unless fields_out out trailing ak4 ak3 ak3s ak2 ak5 block blocks ak1 ak9 st_out se_out told transaction_set transaction_sets isa_out gs_out ge_out iea_out respond response note_code_rules interchange_verdict interchange_rules interchange_refusal ta1 interchange_respond interchange_response answer called parted is_call refused_text printed_call printed ack_prints ta1_prints
everything = tt
