-- `retraction_gen::inner::is_against` meets its contract.
use Rattle.retraction_gen.proofs.inner.is_against.Goals as goal

pub returns-in-Necessary : goal.returns-in-Necessary
returns-in-Necessary c = cc

pub returns-in-Forbidden : goal.returns-in-Forbidden
returns-in-Forbidden c = cc
