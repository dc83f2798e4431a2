-- The claims of specs/Claims.antt. Assumes nothing.
use Rattle.std.specs.Prelude.{Option}
use Rattle.hexlines.specs.Claims.{Streamed, Split, Returns}
use Rattle.hexlines.specs.Session.{Told}
use Rattle.hexlines.specs.declared.Frame.{Frame}
use Rattle.hexlines.proofs.Streams.{any_chunks}
use Rattle.hexlines.proofs.Sizes.{output_size, output_room}
use Rattle.hexlines.proofs.Split.{fed_lines, last_unfed, no_feeds_lem, nothing_lost}
use Rattle.hexlines.proofs.Backward.{digit_read, digit_upper, frame_read, value_read, number_read}
use Rattle.hexlines.proofs.Unique.{one_line}

pub streamed : {B : Type 0} (hear : B → Option Frame → Told B) → Streamed hear
streamed hear = record { chunks = any_chunks hear; sizes = output_size hear; room = output_room hear }

pub split : Split
split = record { fed_lines = fed_lines; last_unfed = last_unfed; no_feeds_lem = no_feeds_lem; nothing_lost = nothing_lost }

pub returns : Returns
returns = record { digits = digit_read; upper = digit_upper; frames = frame_read; one_line = one_line; values = value_read; numbers = number_read }
