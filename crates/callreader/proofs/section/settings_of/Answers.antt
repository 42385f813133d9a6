use mathlib.Core.Path.{refl}
use Rattle.callfile.specs.Sections.{settings_of}
use Rattle.callreader.proofs.section.settings_of.Goals as goal

pub returns : goal.returns
unfolding settings_of
returns c = refl
