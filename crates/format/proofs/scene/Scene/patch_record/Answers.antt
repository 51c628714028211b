-- `Scene::patch_record` meets its contract: the place of the record is a product, of which two laws are cited.
use native.Mathlib.Omega.{arith}
use Rattle.format.proofs.PatchRecords.{record_fits, records_few}
use Rattle.format.proofs.scene.Scene.patch_record.Goals as goal

pub overflow_mul-l-2 : goal.overflow_mul-l-2
overflow_mul-l-2 c = let h = c.args.self.now.laid_out in omega (arith, record_fits h c.requires, records_few h)

pub overflow_add-l-2 : goal.overflow_add-l-2
overflow_add-l-2 c = let h = c.args.self.now.laid_out in omega (arith, record_fits h c.requires, records_few h)

pub patch_record_at-requires : goal.patch_record_at-requires
patch_record_at-requires c = omega (arith, record_fits c.args.self.now.laid_out c.requires)
