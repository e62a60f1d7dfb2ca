-- What the items of a bundle stand for, and that it is told.
use Rattle.std.specs.Prelude.{◌≡◌, ◌⊎◌, ℕ, true, false, List, Option, Some, None, map}
use Rattle.std.specs.List.{AllZip}
use Rattle.std.specs.declared.alloc.Global.{Global}
use Rattle.std.specs.declared.vec.Vec.{Vec}
use Rattle.bundle_syntax.specs.Item.{Item}
use Rattle.bundle_tree_names.specs.FileName.{name_of}
use Rattle.bundle_tree_names.specs.declared.file_name.FileName.{FileName}
use Rattle.bundle_rules.specs.Bundle.{Cause, Chosen, Hooks, IsDue, IsLaidOut, IsPaired, Pairing, form_of}
use Rattle.bundle_rules.specs.Headline.{IsAcyclic, causes_in_order, reading_of}
use Rattle.bundle_rules.specs.Program.{Program, IsList, file_of}
use Rattle.bundle_merge_theory.specs.moved.Renumbered.{cause_at}
use Rattle.bundle_merge_causes.specs.Told.{causes_told}
use Rattle.bundle_merge_causes.specs.declared.cause.BundleCauses.{BundleCauses}
use Rattle.bundle_merge_causes.specs.declared.cause.ItemCause.{ItemCause}

-- a pairing makes the tree a bundle of the program
pub record MakesBundle (p : Program) (hooks : Hooks) (tree : List Item) (pairing : Pairing) :
    Type 0 where
  pub paired : IsPaired p hooks (form_of p.settings) (reading_of p.settings) tree pairing
  pub laid_out : IsLaidOut p (form_of p.settings) (reading_of p.settings) tree pairing

-- the items of a bundle stand for these causes in turn: some pairing makes it a bundle, and each
-- that does has these
pub record StandFor (p : Program) (hooks : Hooks) (tree : List Item) (causes : List Cause) :
    Type 0 where
  pub pairing : Pairing
  pub makes : MakesBundle p hooks tree pairing
  pub each : (other : Pairing) → MakesBundle p hooks tree other → other.plan ≡ causes

-- modules stand in post-order of requests (ECMA-262, 16.2.1.5.2): there are no cycles, or that
-- order is asked for
abbrev pub IsInPostOrder : Program → Type 0
IsInPostOrder p = IsAcyclic p ⊎ (p.settings.in_standard_order ≡ true)

-- the file of a module
abbrev pub HasFile : Program → ℕ → FileName → Type 0
HasFile p m file = file_of p m ≡ Some (name_of file)

-- what is told beside a bundle: the files of its modules in post-order of requests, the entry last;
-- and for each item what it stands for, with modules by their places on that list. That is left out
-- only where modules stand in another order
pub record IsExplained (p : Program) (hooks : Hooks) (tree : List Item) (told : BundleCauses) :
    Type 0 where
  pub list : List ℕ
  pub is_list : IsList p list
  pub modules : AllZip (HasFile p) list told.modules.items
  pub items : (its : Vec ItemCause Global) → told.items ≡ Some its →
      StandFor p hooks tree (map (cause_at list) (causes_told its.items))
  pub none : told.items ≡ None → IsInPostOrder p → ⊥

-- the same before there is a bundle: what is told is just what is due, in that order
pub record AreCausesTold (p : Program) (told : BundleCauses) : Type 0 where
  pub list : List ℕ
  pub is_list : IsList p list
  pub modules : AllZip (HasFile p) list told.modules.items
  pub items : (its : Vec ItemCause Global) → told.items ≡ Some its → IsInPostOrder p
  pub due : (its : Vec ItemCause Global) → told.items ≡ Some its →
      Chosen (IsDue p (form_of p.settings)) (causes_in_order p list)
      (map (cause_at list) (causes_told its.items))
  pub none : told.items ≡ None → IsInPostOrder p → ⊥
