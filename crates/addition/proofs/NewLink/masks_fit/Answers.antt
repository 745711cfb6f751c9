-- `NewLink::masks_fit`: a root's locked mask is tested too. Assumes nothing.
use mathlib.Core.Path.{◌∙◌}
use Rattle.addition.proofs.Tests.{tested_masks}
use Rattle.addition.proofs.NewLink.masks_fit.Goals as goal

pub returns : goal.returns
returns c = (cc) ∙ tested_masks c.args.link c.args.self.now
