-- What is known of a place by the nodes around it in its item.
use Rattle.std.specs.Prelude.{◌≡◌, ℕ, ◌==◌, Bool, true, false, not, List, ◌∷◌}
use Rattle.bundle_syntax.specs.Item as h
use Rattle.bundle_syntax.specs.Item.{Head, head_of}
use Rattle.bundle_rules.specs.Places.{Around}
use Rattle.bundle_rules.specs.Order.{ends_chain, is_assigned, is_in_argument, roots_chain}
use Rattle.bundle_order.specs.declared.spot.ItemFrame.{ItemFrame}
use Rattle.bundle_order.specs.declared.spot.ItemSpot.{ItemSpot}

-- whether what stands in this field of such a node runs later
abbrev pub delays : Head → ℕ → Bool
delays (h.Function is_generator is_async) field = true
delays h.Constructor field = true
delays (h.ArrowExpr is_async) field = true
delays h.GetterProp field = not (field == 0)
delays h.SetterProp field = not (field == 0)
delays (h.ClassProp false) field = field == 1
delays (h.PrivateProp false) field = field == 1
delays _ field = false

-- a place with these nodes around it is assigned, is in a chain that is, or lies in an argument,
-- just as is known
pub record IsKnown (spot : ItemSpot) (path : List Around) : Type 0 where
  pub assigned : spot.is_assigned ≡ is_assigned path
  pub ends : spot.ends_chain ≡ ends_chain path
  pub roots : spot.roots_chain ≡ roots_chain path
  pub argument : spot.is_in_argument ≡ is_in_argument path

-- the nodes around a place in this field of an open node
abbrev pub path_in : ItemFrame → ℕ → List Around → List Around
path_in frame field outer =
    record { head = head_of frame.node; begins = frame.begins; field = field } ∷ outer
