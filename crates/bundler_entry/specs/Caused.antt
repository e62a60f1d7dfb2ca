-- What the items of the bundle of an entry are made for, as its modules were read and linked.
use Rattle.std.specs.Prelude.{◌≡◌, ℕ, List, Option, Some, None, length, map, slice_get}
use Rattle.std.specs.declared.alloc.Global.{Global}
use Rattle.std.specs.declared.vec.Vec.{Vec}
use Rattle.bundle_tree_names.specs.FileName.{name_of}
use Rattle.bundle_tree_names.specs.declared.file_name.FileName.{FileName}
use Rattle.bundle_rules.specs.Bundle.{Chosen, IsDue, form_of}
use Rattle.bundle_rules.specs.Headline.{causes_in_order}
use Rattle.bundle_rules.specs.Program.{Program}
use Rattle.bundle_rules.specs.Statements.{own_statements}
use Rattle.bundle_link.specs.declared.reached.Reached.{Reached}
use Rattle.bundle_merge_theory.specs.moved.Renumbered.{cause_at}
use Rattle.bundle_merge_causes.specs.Standing.{IsInPostOrder}
use Rattle.bundle_merge_causes.specs.Told.{causes_told}
use Rattle.bundle_merge_causes.specs.declared.cause.ItemCause.{ItemCause}
use Rattle.bundle_merge_causes.specs.declared.shape.ModuleShape.{ModuleShape}
use Rattle.bundler_entry.specs.Linked.{IsFileAt, source_in}
use Rattle.bundler_entry.specs.Source.{list_of_source}
use Rattle.bundler_entry.specs.declared.call.EntryCall.{EntryCall}
use Rattle.bundler_entry.specs.declared.source.ReadFile.{ReadFile}

-- the file of module k
pub record IsFileOfModule (call : EntryCall) (reached : Reached) (k : ℕ) (file : FileName) :
    Type 0 where
  pub pair : FileName × ℕ
  pub there : IsFileAt call reached k pair
  pub named : name_of file ≡ name_of pair.0

-- those of the first n modules
pub record AreFilesOfAll (call : EntryCall) (reached : Reached) (n : ℕ) (files : List FileName) :
    Type 0 where
  pub long : length files ≡ n
  pub each : (k : ℕ) (file : FileName) → slice_get files k ≡ Some file →
      IsFileOfModule call reached k file

-- the shape of what was read of a module
pub record IsShapeOf (source : ReadFile) (shape : ModuleShape) : Type 0 where
  pub meta : shape.has_import_meta ≡ source.tables.has_import_meta
  pub counted : shape.statements ≡ length (own_statements (list_of_source source))

-- the shape of module k
pub record IsShapeOfModule (call : EntryCall) (reached : Reached) (k : ℕ) (shape : ModuleShape) :
    Type 0 where
  pub source : ReadFile
  pub there : source_in call reached k ≡ Some source
  pub its : IsShapeOf source shape

-- those of the first n modules
pub record AreShapesOfAll (call : EntryCall) (reached : Reached) (n : ℕ)
    (shapes : List ModuleShape) : Type 0 where
  pub long : length shapes ≡ n
  pub each : (k : ℕ) (shape : ModuleShape) → slice_get shapes k ≡ Some shape →
      IsShapeOfModule call reached k shape

-- the causes that are told are just those that are due in post-order of requests, where the modules
-- have this list; they are left out only where modules stand in another order
pub record AreItemsTold (p : Program) (list : List ℕ) (items : Option (Vec ItemCause Global)) :
    Type 0 where
  pub in_order : (its : Vec ItemCause Global) → items ≡ Some its → IsInPostOrder p
  pub due : (its : Vec ItemCause Global) → items ≡ Some its →
      Chosen (IsDue p (form_of p.settings)) (causes_in_order p list)
      (map (cause_at list) (causes_told its.items))
  pub none : items ≡ None → IsInPostOrder p → ⊥
