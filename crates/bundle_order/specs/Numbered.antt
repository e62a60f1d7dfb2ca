-- The group of the items of a list, where the bindings of the top are numbered as the table does.
use Rattle.std.specs.Prelude.{ℕ, ◌+◌, ◌&&◌, List, Option, map}
use Rattle.bundle_syntax.specs.Item.{Item}
use Rattle.bundle_rules.specs.Places.{Occurrence, occurrences, is_binding}
use Rattle.bundle_rules.specs.Deferred.{runs_later}
use Rattle.bundle_rules.specs.Statements.{TopItem}
use Rattle.bundle_rules.specs.Order.{Mention, Group, is_assigned, is_in_argument, roots_chain, is_prototype_read, is_in_assign_of, has_no_value}
use Rattle.bundle_order.specs.declared.told.TopBinding.{TopBinding}

-- an identifier of an item with these elements, where this is told of its places
abbrev pub numbered_mention : (ℕ → TopBinding) → List Item → Occurrence → Mention
numbered_mention told item o = record {
  top = (told o.place).top;
  declares = is_binding o.role;
  later = runs_later o.path;
  assigned = is_assigned o.path;
  argument = is_in_argument o.path;
  chain = roots_chain o.path;
  prototype =
      is_prototype_read item o.path
      && is_in_assign_of (λ place. (told place).is_object) item o.path;
  valueless = is_binding o.role && has_no_value item o.path;
}

-- the identifiers of an item of a list, where this is told of the places of the list
abbrev pub numbered_row : (ℕ → TopBinding) → TopItem → List Mention
numbered_row told item =
    map (numbered_mention (λ place. told (item.start + place)) item.items) (occurrences item.items)

-- items of a list with their modules as a group
abbrev pub numbered_group : (ℕ → TopBinding) → List TopItem → List (Option ℕ) → Group
numbered_group told items owners = record { items = map (numbered_row told) items; owners = owners }
