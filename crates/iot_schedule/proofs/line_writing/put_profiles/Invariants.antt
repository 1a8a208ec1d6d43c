use Rattle.std.proofs.Common.{◌≡◌, ◌++◌, take}
use Rattle.std.specs.List.{flat_map}
use Rattle.iot_schedule.specs.Spelling.{profile_entry}
use Rattle.iot_schedule.proofs.line_writing.put_profiles.Given as goal

abbrev pub invariant-loop-profile : goal.invariant-loop-profile
invariant-loop-profile l = l.out ≡ l.fn.out ++ flat_map profile_entry (take l.profile-index l.profiles)
