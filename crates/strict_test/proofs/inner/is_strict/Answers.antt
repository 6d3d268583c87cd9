-- `strict_test::inner::is_strict` meets its contract.
use mathlib.Core.Path.{◌∙◌}
use Rattle.strict_test.proofs.Earlier.{earlier_ready, strict_told, strict_refused}
use Rattle.strict_test.proofs.inner.is_strict.Goals as goal

pub earlier_ok-requires : goal.earlier_ok-requires
earlier_ok-requires c = earlier_ready _ _ c.requires.1 _ c.unmake-u.ensures c.in-Ok.is

pub returns-in-Err : goal.returns-in-Err
returns-in-Err c = strict_refused _ _ c.requires.1 _ c.unmake-u.ensures _ c.in-Err.is

pub returns-in-Ok : goal.returns-in-Ok
returns-in-Ok c = c.earlier_ok.ensures ∙ strict_told _ _ c.requires.1 _ c.unmake-u.ensures c.in-Ok.is
