-- What is known of the nodes that are open at a place of an item.
use Rattle.std.specs.Prelude.{◌≡◌, ℕ, ◌+◌, ◌&&◌, Bool, false, List, [], ◌∷◌, Option, Some, None, codes}
use Rattle.bundle_syntax.specs.Item.{Item, Head, head_of}
use Rattle.bundle_rules.specs.Places.{Around}
use Rattle.bundle_rules.specs.Deferred.{runs_later}
use Rattle.bundle_rules.specs.Nodes.{in_field, node_at}
use Rattle.bundle_rules.specs.Entries.{is_call_head}
use Rattle.bundle_rules.specs.Reads.{property_of}
use Rattle.bundle_rules.specs.Order.{has_no_value, is_in_assign_of, is_nothing, is_text}
use Rattle.bundle_order.specs.declared.spot.ItemFrame.{ItemFrame}
use Rattle.bundle_order.specs.declared.spot.ItemSpot.{ItemSpot}
use Rattle.bundle_order.specs.declared.told.TopBinding.{TopBinding}
use Rattle.bundle_order.specs.Known.{IsKnown}

-- whether nothing is in the second field of the node that begins there
abbrev pub no_value_at : List Item → Option ℕ → Bool
no_value_at item None = false
no_value_at item (Some begins) = is_nothing (in_field 1 (node_at item begins))

-- whether a node at a place calls the `assign` of the global `Object`
abbrev pub calls_assign : List Item → (ℕ → TopBinding) → Head → ℕ → Bool
calls_assign item told head begins =
    is_call_head head
    && (is_text (codes "assign") (property_of (node_at item (begins + 1)))
    && (told (begins + 2)).is_object)

-- a place of an item with these nodes around it is just as is known
pub record IsItemSpot
    (item : List Item) (told : ℕ → TopBinding) (spot : ItemSpot) (path : List Around) : Type 0 where
  pub known : IsKnown spot path
  pub later : spot.is_later ≡ runs_later path
  pub assign : spot.is_in_assign ≡ is_in_assign_of (λ place. (told place).is_object) item path
  pub empty : no_value_at item spot.declarator ≡ has_no_value item path

-- an open node is just as is known
pub record IsItemFrame
    (item : List Item) (told : ℕ → TopBinding) (frame : ItemFrame) (node : Around)
    (outer : List Around) : Type 0 where
  pub head : head_of frame.node ≡ node.head
  pub begins : frame.begins ≡ node.begins
  pub spot : IsItemSpot item told frame.spot outer
  pub calls : frame.is_object_assign ≡ calls_assign item told node.head node.begins

-- so are all open nodes, innermost first
abbrev pub AreItemFrames : List Item → (ℕ → TopBinding) → List ItemFrame → List Around → Type 0
AreItemFrames item told [] [] = Unit {0}
AreItemFrames item told [] (node ∷ outer) = ⊥
AreItemFrames item told (frame ∷ frames) [] = ⊥
AreItemFrames item told (frame ∷ frames) (node ∷ outer) =
    IsItemFrame item told frame node outer × AreItemFrames item told frames outer
