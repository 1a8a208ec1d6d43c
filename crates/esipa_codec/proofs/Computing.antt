-- `unfolding computing_acts` opens the definitions of eIMs and of the assistant, for examples that
-- compute.
use Rattle.small_card.proofs.Computing.{computing}
use Rattle.esipa_codec.specs.Assistant.{is_failed_probe, ends_failures, failures, strikes, asked, act_of}
use Rattle.esipa_codec.specs.Eims.{counters_of, bind_end, bound_to, order_end, ordered, waits, first_waiting, skip_first, skipped, skip_end, message_end, heard}
use Rattle.esipa_codec.specs.Events.{after_event, after_events}
use Rattle.esipa_codec.specs.Records.{greater, record_of, keys, records_of}

unfoldable pub computing_acts : Unit {0}
unfolding computing is_failed_probe ends_failures failures strikes asked act_of counters_of bind_end bound_to order_end ordered waits first_waiting skip_first skipped skip_end message_end heard after_event after_events greater record_of keys records_of
computing_acts = tt
