use Rattle.home_codec.proofs.Laid.{home_places, places_set, places_fields, places_home}
use Rattle.home_codec.proofs.laws.parts_are_laid.Goals as goal

pub returns : goal.returns
returns c = record {
  places = λ home f h. home_places f home h;
  slot = places_set;
  fields = places_fields;
  home = places_home;
}
