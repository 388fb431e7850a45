-- Everything that was asked for, proved.
use Rattle.text.proofs.PackedText.{unpacked-packed, packed_one_one, packed_stands}
use Rattle.text.proofs.PackedLength.{packed_shorter}
use Rattle.records.proofs.RecordStreams.{stream_of_injective}
use Rattle.promises.specs.Steps.{small_volume}
use Rattle.promises.specs.LongSteps.{longest_record}
use Rattle.promises.specs.Table.{table_differs}
use Rattle.promises.specs.Texts.{samples_packed_lem}
use Rattle.promises.specs.FrontSteps.{front_steps}
use Rattle.promises.specs.Demands.{Demands}
use Rattle.promises.proofs.Answers.{in_table, refusal_keeps, refused_exactly, unready_refused, one_outcome}
use Rattle.promises.proofs.Sectors.{in_order}
use Rattle.promises.proofs.Effects.Formatted.{accepted_format}
use Rattle.promises.proofs.Effects.Allocated.{accepted_allocate}
use Rattle.promises.proofs.Effects.Deleted.{accepted_delete}
use Rattle.promises.proofs.Effects.Seated.{accepted_assign, accepted_close, accepted_rewind}
use Rattle.promises.proofs.Counts.{free_count, most_taken}
use Rattle.promises.proofs.Reading.{accepted_read}
use Rattle.promises.proofs.Writing.{accepted_write}
use Rattle.promises.proofs.Updating.{accepted_update}
use Rattle.promises.proofs.Preserved.{stays_good, stays_sound, runs_are_visits, other_files_kept, others_kept, frame_kept}
use Rattle.promises.proofs.Lasts.Lasting.{Lasts-through, append_ends_none}
use Rattle.promises.proofs.Lasts.ReadBack.{written_is_read, written_sector_is_read, updated_is_read}
use Rattle.promises.proofs.Lasts.TextsKept.{written_text_is_read, updated_text_is_read, longest_text, run_by_run, option_ignored}
use Rattle.promises.proofs.Lasts.NeverPastEnd.{never_past_end}
use Rattle.promises.proofs.Fronts.PackedDesks.{desk_reads_back, no_two_desks_alike, one_plain_desk}
use Rattle.promises.proofs.Fronts.PlainDesks.{calls_make_plain}
use Rattle.promises.proofs.Fronts.FrontAnswers.{front_in_table, request_refusal_keeps, front_refusal_keeps, short_block, front_refused_exactly, one_ending}
use Rattle.promises.proofs.Fronts.ReportsTold.{reports_told}
use Rattle.promises.proofs.Fronts.FrontCarried.{block_answered, only_the_part, only_reads_fill, accepted_through}
use Rattle.promises.proofs.Fronts.FrontReadBack.{written_through, written_sector_through, updated_through}
use Rattle.promises.proofs.Fronts.FrontRuns.{requests_are_visits, requests_are_runs, front_stays_good}
use Rattle.promises.proofs.Effects.Buffers.{only_reads_hand_over}
use Rattle.promises.proofs.Private.ByRight.{read_by_right, never_a_byte}
use Rattle.promises.proofs.Private.OldVolumes.{old_volumes}
use Rattle.promises.proofs.Fronts.ReadsThrough.{read_by_right_through}
use Rattle.promises.proofs.Effects.BroughtUp.{bring_up_exactly, accepted_bring_up, sound_already}
use Rattle.promises.proofs.Lasts.StoredCounts.{stored_counts, stored_counts_stay}
use Rattle.promises.proofs.Effects.OneStep.{Fewest-segments, one_step}
use Rattle.promises.proofs.Effects.Compacted.{accepted_compact, little_by_little, settled_again, reads_alike}
use Rattle.promises.proofs.Effects.ContentsKept.{contents_kept}
use Rattle.promises.proofs.Conclusions.{not_all_refused, not_all_done, not_unchanged, not_only_e, check_counts}

pub demands : Demands
demands = record {
  in_table = in_table;
  refusal_keeps = refusal_keeps;
  accepted_format = accepted_format;
  accepted_allocate = accepted_allocate;
  accepted_assign = accepted_assign;
  accepted_close = accepted_close;
  accepted_rewind = accepted_rewind;
  accepted_delete = accepted_delete;
  accepted_read = accepted_read;
  accepted_write = accepted_write;
  accepted_update = accepted_update;
  free_count = free_count;
  other_files_kept = other_files_kept;
  frame_kept = frame_kept;
  lasts_through = Lasts-through;
  append_ends_none = append_ends_none;
  written_is_read = written_is_read;
  written_sector_is_read = written_sector_is_read;
  updated_is_read = updated_is_read;
  written_text_is_read = written_text_is_read;
  updated_text_is_read = updated_text_is_read;
  never_past_end = never_past_end;
  runs_are_visits = runs_are_visits;
  refused_exactly = refused_exactly;
  unready_refused = unready_refused;
  stays_good = stays_good;
  stays_sound = stays_sound;
  sound_in_order = in_order;
  one_stream_each = stream_of_injective;
  others_kept = others_kept;
  packed_reads_back = unpacked-packed;
  no_two_stored_alike = packed_one_one;
  never_longer = packed_shorter;
  no_empty_byte = packed_stands;
  longest_text = longest_text;
  run_by_run = run_by_run;
  samples_packed = samples_packed_lem;
  option_ignored = option_ignored;
  desk_reads_back = desk_reads_back;
  no_two_desks_alike = no_two_desks_alike;
  one_plain_desk = one_plain_desk;
  calls_make_plain = calls_make_plain;
  front_in_table = front_in_table;
  request_refusal_keeps = request_refusal_keeps;
  front_refusal_keeps = front_refusal_keeps;
  short_block = short_block;
  block_answered = block_answered;
  only_the_part = only_the_part;
  only_reads_fill = only_reads_fill;
  front_refused_exactly = front_refused_exactly;
  accepted_through = accepted_through;
  written_through = written_through;
  written_sector_through = written_sector_through;
  updated_through = updated_through;
  requests_are_visits = requests_are_visits;
  requests_are_runs = requests_are_runs;
  front_stays_good = front_stays_good;
  one_ending = one_ending;
  front_steps = front_steps;
  read_by_right = read_by_right;
  read_by_right_through = read_by_right_through;
  never_a_byte = never_a_byte;
  only_reads_hand_over = only_reads_hand_over;
  old_volumes = old_volumes;
  stored_counts = stored_counts;
  stored_counts_stay = stored_counts_stay;
  bring_up_exactly = bring_up_exactly;
  accepted_bring_up = accepted_bring_up;
  sound_already = sound_already;
  fewest_segments = Fewest-segments;
  one_step = one_step;
  accepted_compact = accepted_compact;
  little_by_little = little_by_little;
  settled_again = settled_again;
  contents_kept = contents_kept;
  reads_alike = reads_alike;
  reports_told = reports_told;
  most_taken = most_taken;
  longest_record = longest_record;
  one_outcome = one_outcome;
  not_all_refused = not_all_refused;
  not_all_done = not_all_done;
  not_unchanged = not_unchanged;
  not_only_e = not_only_e;
  check_counts = check_counts;
  small_volume = small_volume;
  table_differs = table_differs;
}
