-- `work_path` links the rows, begins with sums that ask nothing, counts the rows off the path, and climbs.
use native.Mathlib.Omega.{arith}
use Rattle.layout.specs.Counts.{rows_most}
use Rattle.rows.proofs.InRangeLaws.{passed-feeds}
use Rattle.feeding.specs.Fed.{unlinked}
use Rattle.rowwise.specs.Sums.{nothing}
use Rattle.rowwise.proofs.LinkLaws.{link-ready}
use Rattle.rowwise.proofs.StartLaws.{clear_reads}
use Rattle.path.proofs.work_path.Goals as goal

pub link-requires : goal.link-requires
link-requires c = let a = c.requires in
    link-ready _ _ (passed-feeds _ a.rows-tested) a.rework.rows-to (omega arith) (clear_reads unlinked rows_most)

pub push_rest-requires : goal.push_rest-requires
push_rest-requires c = let a = c.requires in
    record {
      is_row = a.rework.is_row;
      card-tested = a.card-tested;
      unworked =
          record {
            rows-to = a.rework.rows-to;
            tested = a.rows-tested;
            card-room = a.rework.card-room;
            sums-room = omega (arith, a.rework.rows-to);
            sums-clear = clear_reads nothing rows_most;
          };
    }

pub climb-requires : goal.climb-requires
climb-requires c = record {
  is_row = c.requires.rework.is_row;
  working = c.push_rest.ensures;
}
