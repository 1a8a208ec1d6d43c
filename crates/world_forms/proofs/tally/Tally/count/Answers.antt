use Rattle.world_forms.proofs.Tallies.{all_counted}
use Rattle.world_forms.proofs.tally.Tally.count.Goals as goal

pub returns : goal.returns
returns c = all_counted c.args.self.now _ c.args.text.now c.counted-self.ensures c.counted-self-2.ensures c.counted-self-3.ensures c.counted-self-4.ensures c.counted-self-5.ensures
