-- Machine values as the model's.
use Rattle.model.specs.Format as model
use Rattle.geometry.specs.Machine.{vec_of}
use Rattle.format.specs.declared.records.Run.{Run}
use Rattle.format.specs.declared.records.Node.{Node}
use Rattle.format.specs.declared.records.PatchRecord.{PatchRecord}

abbrev pub run_of : Run → model.Run
run_of r = record { first = r.first; count = r.count }

abbrev pub node_of : Node → model.NodeRecord
node_of n =
    record {
      plane = record { a = vec_of n.a; b = vec_of n.b; c = vec_of n.c };
      positive = n.positive;
      negative = n.negative;
      patch_run = run_of n.patches;
    }

abbrev pub patch_record_of : PatchRecord → model.PatchRecord
patch_record_of p = record { panel = p.panel; corner_run = run_of p.corners }
