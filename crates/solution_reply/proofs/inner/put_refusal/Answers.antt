-- `solution_reply::inner::put_refusal` meets its contract.
use Rattle.rows.specs.Rows.{decimal_in}
use Rattle.solution_reply.proofs.Shown.{refusal_shown}
use Rattle.solution_reply.proofs.inner.put_refusal.Goals as goal

pub returns-in-Line : goal.returns-in-Line
unfolding decimal_in
returns-in-Line c = refusal_shown c.in-Line.is c.put_numbered.ensures

pub returns-in-Position : goal.returns-in-Position
returns-in-Position c = refusal_shown c.in-Position.is c.put_refused.ensures

pub returns-in-Many : goal.returns-in-Many
returns-in-Many c = refusal_shown c.in-Many.is c.put_number.ensures
