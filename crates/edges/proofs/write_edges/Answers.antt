-- `edges::write_edges` meets its contract: while the loop runs, the functions of the first i edges stand in the table, and the next edge's corner is at
-- hand.
use native.Mathlib.Nat.{add-zero}
use native.Mathlib.Omega.{arith}
use Rattle.edges.proofs.Places.{sign_small, sign_passed, next_inside}
use Rattle.edges.proofs.Runs.{bounded_corner, run_count}
use Rattle.edges.proofs.Writes.{writing_none, edge_asked, writing_more, writing_all}
use Rattle.edges.proofs.Rounds.{goes_on, edge_seen, keeping}
use Rattle.edges.proofs.write_edges.Goals as goal

pub loop-i-init : goal.loop-i-init
loop-i-init c =
    record {
      writing = writing_none (keeping c.requires.0 c.corner_run-run.ensures) c.requires.0.room;
      from_is = λ h. rw add-zero c.corner-from.ensures.value;
    }

pub corner-to-requires : goal.corner-to-requires
corner-to-requires c = omega (arith, c.next_place.ensures, next_inside c.corner_run-run.result.count c.loop-i.i c.loop-i-test.true, c.corner_run-run.ensures.run_inside)

pub oriented_edge-edge-requires : goal.oriented_edge-edge-requires
oriented_edge-edge-requires c =
    let h = c.loop-i-test.true in
    record {
      eye_bounded = c.requires.0.sight.eye_bounded;
      v_bounded = bounded_corner c.args.scene.now.checked (omega (arith, h, c.corner_run-run.ensures.run_inside)) (c.loop-i.invariant.from_is h);
      w_bounded = c.corner-to.ensures.bounded;
      sign_within = sign_small (sign_passed c.requires.1);
    }

pub keep_one-sloped-requires : goal.keep_one-sloped-requires
keep_one-sloped-requires c =
    let h = c.loop-i-test.true in
    edge_asked (keeping c.requires.0 c.corner_run-run.ensures) c.loop-i.invariant.writing h
    (edge_seen c.args.sight c.corner_run-run.ensures (sign_passed c.requires.1) h (c.loop-i.invariant.from_is h) c.next_place.ensures c.corner-to.ensures.value c.oriented_edge-edge.ensures.value c.edge_function.ensures)

pub loop-i-preserved : goal.loop-i-preserved
loop-i-preserved c =
    let h = c.loop-i-test.true in
    record {
      writing =
          writing_more (keeping c.requires.0 c.corner_run-run.ensures) c.loop-i.invariant.writing h
          (edge_seen c.args.sight c.corner_run-run.ensures (sign_passed c.requires.1) h (c.loop-i.invariant.from_is h) c.next_place.ensures c.corner-to.ensures.value c.oriented_edge-edge.ensures.value c.edge_function.ensures)
          c.keep_one-sloped.ensures;
      from_is = goes_on _ c.args.scene.now.layout _ _ _ _ c.next_place.ensures c.corner-to.ensures.value;
    }

pub returns : goal.returns
returns c =
    writing_all (keeping c.requires.0 c.corner_run-run.ensures) c.loop-i.invariant.writing (run_count c.corner_run-run.ensures) (omega (arith, c.corner_run-run.ensures.three)) c.loop-i-test.false
