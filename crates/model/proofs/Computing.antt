-- Every definition of the model that stays shut, named once: a theorem that computes says `unfolding computing` and nothing else,
-- and one that has the tables accepted already says `unfolding stepping`, which leaves the load shut.
-- Assumes nothing.
use Rattle.model.specs.Tables.{windows, ports_end, ports, channels, row_at, same_name, source_port, destinations, destination_port}
use Rattle.model.specs.Load.{length_fault, kind_fault, count_fault, window_fits, row_fits, port_fits, channel_fits, field_fault, name_fits, same_owner_and_name, port_name_fault, name_fault, end_fits, count_fits, named_among, named_before, channel_ends_fit, end_fault, fault, first_fault, load_of, accepts}
use Rattle.model.specs.State.{loaded, tick, offer, port_in_range, in_range}
use Rattle.model.specs.Events.{decode}
use Rattle.model.specs.Answers.{refusal, told, is_handed, stretch, handed}
use Rattle.model.specs.Services.{is_named, look_up, like_row, made, create, get_id, own, stored, put, get, status, cleared, serve, use_own, with_mode, set_mode, service, schedule, arrived, transmit}
use Rattle.model.specs.Step.{turn_in, turn, doer, reply_in, reply, answer, after}
use Rattle.model.specs.Run.{events_of, list_fault, ran_or, run, step}
use Rattle.model.specs.Flow.{held_port, holds, hands, set_of, mattering_to}

unfoldable pub stepping : Unit {0}
unfolding windows ports_end ports channels row_at same_name source_port destinations destination_port loaded tick offer port_in_range in_range decode refusal told is_handed stretch handed is_named look_up like_row made create get_id own stored put get status cleared serve use_own with_mode set_mode service schedule arrived transmit turn_in turn doer reply_in reply answer after events_of list_fault ran_or run step held_port holds hands set_of mattering_to
stepping = tt

unfoldable pub computing : Unit {0}
unfolding stepping length_fault kind_fault count_fault window_fits row_fits port_fits channel_fits field_fault name_fits same_owner_and_name port_name_fault name_fault end_fits count_fits named_among named_before channel_ends_fit end_fault fault first_fault load_of accepts
computing = tt
