use Rattle.policy.proofs.class.Sight.with.Goals as goal

pub returns : goal.returns
returns c = cc
