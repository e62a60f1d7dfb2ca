-- What the table of a list says of its places.
use Rattle.std.specs.Prelude.{ℕ, ◌==◌, ◌&&◌, nat_eq, Bool, false, not, List, Option, Some, None, is_some, cond, slice_get, bytes_eq, codes, fold}
use Rattle.bundle_syntax.specs.Item as h
use Rattle.bundle_syntax.specs.Item.{Item}
use Rattle.bundle_scope_denote.specs.declared.table.Binding.{Binding}
use Rattle.bundle_scope_denote.specs.declared.table.Denoted.{Denoted}
use Rattle.bundle_scope_denote.specs.declared.table.Denotations.{Denotations}
use Rattle.bundle_order.specs.declared.told.TopBinding.{TopBinding}

-- nothing is told
abbrev pub no_binding_told : TopBinding
no_binding_told = record { top = None; is_object = false }

-- the binding with this number, if it is one of the top
abbrev pub top_binding_number : ℕ → ℕ → Option Binding → Option ℕ
top_binding_number top number None = None
top_binding_number top number (Some binding) = cond (nat_eq binding.scope top) (Some number) None

-- the binding that an entry of the table tells, if it is one of the top
abbrev pub top_by : Denotations → ℕ → Option ℕ → Option ℕ
top_by table top None = None
top_by table top (Some number) =
    top_binding_number top number (slice_get table.bindings.items number)

abbrev pub top_of : Denotations → ℕ → Denoted → Option ℕ
top_of table top entry = top_by table top entry.binding

-- whether an element is an `Object` with the context of what nothing binds
abbrev pub is_global_object : Item → Bool
is_global_object (h.Ident field sym ctxt role) = ctxt == 1 && bytes_eq sym (codes "Object")
is_global_object _ = false

-- what an entry of the table tells of the element at its place
abbrev pub told_of : Item → Denotations → ℕ → Denoted → TopBinding
told_of item table top entry =
    record {
      top = top_of table top entry;
      is_object = not (is_some entry.binding) && is_global_object item;
    }

-- the same, if there is such an element
abbrev pub told_by : Option Item → Denotations → ℕ → Denoted → TopBinding
told_by None table top entry = no_binding_told
told_by (Some item) table top entry = told_of item table top entry

-- what these entries of the table tell of a place, the last one of it
abbrev pub told_in : List Denoted → List Item → Denotations → ℕ → ℕ → TopBinding
told_in entries items table top place =
    fold
    (λ told entry.
    cond (nat_eq entry.place place) (told_by (slice_get items place) table top entry) told)
    no_binding_told entries

-- what the table tells of a place
abbrev pub told_at : List Item → Denotations → ℕ → ℕ → TopBinding
told_at items table top place = told_in table.occurrences.items items table top place
