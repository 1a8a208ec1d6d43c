-- `unfolding computing_world` opens every definition that a run goes through, for examples that compute.
use Rattle.std.specs.Fmt.{digits}
use Rattle.hex.specs.Hex.{encode_with}
use Rattle.small_card.proofs.Computing.{computing}
use Rattle.sgp_der.specs.Element.{len_octets, element}
use Rattle.sgp_der.specs.Fields.{field_at, only_at}
use Rattle.sgp_der.specs.Number.{uint, uint_of}
use Rattle.sgp_der.specs.Reading.{len_at, element_at}
use Rattle.sgp_fields.specs.Config.{config_content, config_of}
use Rattle.sgp_fields.specs.Elements.{whole_at}
use Rattle.sgp_fields.specs.Fields.{value_at, last_at, optional_at, last_mark_at}
use Rattle.sgp_fields.specs.Lists.{list_at}
use Rattle.sgp_fields.specs.Values.{flag_content, flag_of, number_of, mark_of}
use Rattle.sgp_values.specs.Reading.{iccid_of, eid_of, eim_id_of, address_of, key_of, nickname_of}
use Rattle.package_codec.specs.Reading.{enable_of, disable_of, delete_of, list_profiles_of, psmo_of, add_of, update_of, drop_of, list_eims_of, eco_of, psmos_of, ecos_of, body_of, body_at, package_of, signed_of, signed_at}
use Rattle.package_codec.specs.Spelling.{iccid_content, enable_content, psmo, id_content, update_content, eco, body, package_fields, inner_package, signed_content, signed}
use Rattle.package_codec.specs.Checks.{package_refusal, check_read, check}
use Rattle.package_codec.specs.Replies.{reply, unit_of, after, after_all}
use Rattle.small_card.specs.Fresh.{fresh}
use Rattle.small_card.specs.Prefixes.{oldest, first_units}
use Rattle.esipa_codec.specs.Records.{greater, record_of, keys, records_of}
use Rattle.esipa_codec.specs.Eims.{counters_of, bind_end, bound_to, order_end, ordered, waits, first_waiting, skip_first, skipped, skip_end, message_end, heard}
use Rattle.esipa_codec.specs.Assistant.{is_failed_probe, ends_failures, failures, strikes, asked, act_of}
use Rattle.trace_text.specs.Texts.{item_text, item_entry, items_text, refused_text, profile_entry, package_text, eim_entry, pending_entry, profiles_text, eims_text, pending_text, card_text, record_entry, kept_text}
use Rattle.small_world.specs.Worlds.{started, start_world}
use Rattle.small_world.specs.Network.{is_known, eim_of, at_eim, picked, joined, replies_of, gone_up}
use Rattle.card_store.specs.Holding.{tried}
use Rattle.small_world.specs.Stepping.{attempt, commanded, booted}
use Rattle.small_world.specs.Acting.{command_of, posts_of, told_answer, asked_card, acts}
use Rattle.small_world.specs.Lines.{polled, gone_down, handed, acted, attended}
use Rattle.small_world.specs.Texts.{said, places_text, sent_text, bind_text, order_text, skip_text, message_text, answer_text, modem_entry, modems_text}
use Rattle.small_world.specs.Printing.{of_eim, up_text, sent_for, obeyed_text, down_text, probe_text, printed, device_printed}
use Rattle.small_world.specs.Runs.{given, steps_card, after_turn, world_after, IsRun, texts_back, AreSteps}
use Rattle.small_world.specs.Modems.{attached, enabled_lit, told_since}
use Rattle.small_world.specs.Forms.{remarked, renewed, newest_from, newest, forms_from, forms}
use Rattle.small_world.specs.Examples.{played, left_by, MayPlay}

unfoldable pub computing_codec : Unit {0}
unfolding len_octets element field_at only_at uint uint_of len_at element_at config_content config_of whole_at value_at last_at optional_at last_mark_at list_at flag_content flag_of number_of mark_of iccid_of eid_of eim_id_of address_of key_of nickname_of enable_of disable_of delete_of list_profiles_of psmo_of add_of update_of drop_of list_eims_of eco_of psmos_of ecos_of body_of body_at package_of signed_of signed_at iccid_content enable_content psmo id_content update_content eco body package_fields inner_package signed_content signed package_refusal check_read check reply unit_of after after_all
computing_codec = tt

unfoldable pub computing_world : Unit {0}
unfolding digits encode_with computing computing_codec fresh oldest first_units greater record_of keys records_of counters_of bind_end bound_to order_end ordered waits first_waiting skip_first skipped skip_end message_end heard is_failed_probe ends_failures failures strikes asked act_of item_text item_entry items_text refused_text profile_entry package_text eim_entry pending_entry profiles_text eims_text pending_text card_text record_entry kept_text started start_world is_known eim_of at_eim picked joined replies_of gone_up tried attempt commanded booted command_of posts_of told_answer asked_card acts polled gone_down handed acted attended said places_text sent_text bind_text order_text skip_text message_text answer_text modem_entry modems_text of_eim up_text sent_for obeyed_text down_text probe_text printed device_printed given steps_card after_turn world_after IsRun texts_back AreSteps attached enabled_lit told_since remarked renewed newest_from newest forms_from forms played left_by MayPlay
computing_world = tt
