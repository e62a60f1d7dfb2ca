-- Rewriting keeps the grammar: what stands in its place there stands after it.
use Rattle.std.proofs.Common.{◌≡◌, ℕ, Bool, true, false, not, ◌&&◌, List, [], ◌∷◌, ◌++◌, append_assoc, append-nil, Option, Some, None, refl, sym, ◌∙◌, subst}
use Rattle.std.specs.Prelude.{bytes_eq, codes, if◌then◌else◌}
use Rattle.std.proofs.lemmas.Bool.{false≢true}
use Rattle.bundle_syntax.specs.declared.kind.ExportMetadata.{ExportMetadata}
use Rattle.bundle_syntax.specs.declared.kind.MetaPropKind.{MetaPropKind}
use Rattle.bundle_syntax.specs.declared.kind.VarDeclKind.{VarDeclKind}
use Rattle.bundle_syntax.specs.declared.piece.Role.{Role}
use Rattle.bundle_syntax.specs.declared.piece.Role.TheVariants as r
use Rattle.bundle_syntax.specs.Item as h
use Rattle.bundle_syntax.specs.Item.{Item, Head}
use Rattle.bundle_rules.specs.Rebuilds.{Change, spells_out, plain_key, key_in_object}
use Rattle.bundle_tree_places.specs.Edits.{Around, Anywhere, InObject, InSpecifier, node, around_in, renamed, in_its_place, binding, pattern_in_its_place, shorthand_in_its_place}
use Rattle.bundle_tree_parse.specs.Sorts.{Sort, AModuleName, AnItem, AStmt, ADecl, AVarDecl, AnExpr, AnInit, ALoopHead, ACallee, AnArrowBody, AMemberExpr, ALink, ATarget, APropertyOrSpread, AKey, AnIdent, APattern, ABindingIdent, APatternProperty, Count, One, Optional, Many, Places, Slot, slot, takes, names_in, fields, name_of}
use Rattle.bundle_tree_parse.specs.Standing.{is_needed, after, AreIn, no_more, over, a_name, a_hole, a_node, an_export_list, IsIn, AreEach}
use Rattle.bundle_tree_parse.proofs.Rows.{last, last_each}
use Rattle.bundle_tree_rebuild.specs.Work.{Work, next, upcoming}
use Rattle.bundle_tree_rebuild.specs.Becomes.{Becomes, Nothing, Joined, Hole, Word, Name, Inside, Declaration, Kept, Shorthand, OfReads, OfCall, OfMeta, begins_with_member, keeps_first, stays, kept_notes}
use Rattle.bundle_tree_rewrite.proofs.grammar.Balance.{none_whole, name_whole, both_whole, node_whole, binding_whole, member_whole, literal_call_whole, before_whole}
use Rattle.bundle_tree_rewrite.proofs.grammar.Fields.{right_true, left_true, both_true, slots_of, MayHold, hold_first, hold_alone, Reaches, here, later, reach, NameAt, NodeAt, name_at, hole_at, node_at, only, each_of}

-- Where a name may stand for more than a name.

-- whether a reference may stand wherever a member expression does: not where one is assigned to, nor where it begins an optional chain
abbrev pub may_refer : Sort → Bool
may_refer AMemberExpr = false
may_refer ALink = false
may_refer ATarget = false
may_refer _ = true

abbrev pub may_all_refer : List Slot → Bool
may_all_refer [] = true
may_all_refer (slot number count sort ∷ more) = may_refer sort && may_all_refer more

-- the same behind the first field, in which something stands
abbrev may_others_refer : List Slot → Bool
may_others_refer [] = false
may_others_refer (slot number count sort ∷ more) = is_needed count && may_all_refer more

refers : (sort : Sort) → may_refer sort ≡ true → takes sort h.MemberExpr ≡ true → name_of sort ≡ Some r.Reference
refers AMemberExpr may taken = absurd (false≢true may)
refers ALink may taken = absurd (false≢true may)
refers ATarget may taken = absurd (false≢true may)
refers AnExpr may taken = refl
refers AnInit may taken = refl
refers ALoopHead may taken = refl
refers ACallee may taken = refl
refers AnArrowBody may taken = refl
refers (APattern names) may taken = refl
refers _ may taken = absurd (false≢true taken)

meta_refers : (sort : Sort) (kind : MetaPropKind) → takes sort (h.MetaPropExpr kind) ≡ true → name_of sort ≡ Some r.Reference
meta_refers AnExpr kind taken = refl
meta_refers AnInit kind taken = refl
meta_refers ALoopHead kind taken = refl
meta_refers ACallee kind taken = refl
meta_refers AnArrowBody kind taken = refl
meta_refers (APattern names) kind taken = refl
meta_refers _ kind taken = absurd (false≢true taken)

-- What is around a row of fields, of which these are left, with what stands in them.
pub data Suits : Around → List Slot → List Item → Type 0 where
  -- a reference may stand for a member expression
  suits_all : {slots : List Slot} {items : List Item} → may_all_refer slots ≡ true → Suits Anywhere slots items
  -- or it may not in the first, where there is none
  suits_others : {slots : List Slot} {items : List Item} → may_others_refer slots ≡ true → begins_with_member items ≡ false → Suits Anywhere slots items
  -- the properties of an object literal
  suits_object : {items : List Item} → Suits InObject (slot 0 Many APropertyOrSpread ∷ []) items
  -- the only name of a specifier
  suits_specifier : {sort : Sort} (item : Item) → Suits InSpecifier (slot 0 One sort ∷ slot 1 Optional (AModuleName r.Word) ∷ []) (item ∷ [])
  -- behind it
  suits_end : {around : Around} {slots : List Slot} → Suits around slots []

so_false : (b : Bool) → not b ≡ true → b ≡ false
so_false false e = refl
so_false true e = absurd (false≢true e)

all_behind : {slots more : List Slot} {number : ℕ} {count : Count} {sort : Sort} → Reaches slots number count sort more → may_all_refer slots ≡ true → may_all_refer (after number count sort more) ≡ true
all_behind (here {count = One} {sort = sort} {more = more}) e = right_true (may_refer sort) (may_all_refer more) e
all_behind (here {count = Optional} {sort = sort} {more = more}) e = right_true (may_refer sort) (may_all_refer more) e
all_behind (here {count = Many}) e = e
all_behind (here {count = Places}) e = e
all_behind (later {unused = unused} {behind = behind} needed free further) e = all_behind further (right_true (may_refer unused) (may_all_refer behind) e)

others_behind : {slots more : List Slot} {number : ℕ} {count : Count} {sort : Sort} → Reaches slots number count sort more → may_others_refer slots ≡ true → may_all_refer (after number count sort more) ≡ true
others_behind (here {count = One}) e = e
others_behind (here {count = Optional}) e = absurd (false≢true e)
others_behind (here {count = Many}) e = absurd (false≢true e)
others_behind (here {count = Places}) e = absurd (false≢true e)
others_behind (later {other = other} {behind = behind} needed free further) e = absurd (false≢true (sym needed ∙ left_true (is_needed other) (may_all_refer behind) e))

refers_there : {slots more : List Slot} {number : ℕ} {count : Count} {sort : Sort} → Reaches slots number count sort more → may_all_refer slots ≡ true → may_refer sort ≡ true
refers_there (here {sort = sort} {more = more}) e = left_true (may_refer sort) (may_all_refer more) e
refers_there (later {unused = unused} {behind = behind} needed free further) e = refers_there further (right_true (may_refer unused) (may_all_refer behind) e)

-- what is around what stands behind a node or a name
suits_behind : {around : Around} {slots more : List Slot} {number : ℕ} {count : Count} {sort : Sort} {item : Item} {rest : List Item} (tail : List Item) → (rest ≡ [] → tail ≡ []) → Suits around slots (item ∷ rest) → Reaches slots number count sort more → Suits around (after number count sort more) tail
suits_behind tail ends (suits_all e) by = suits_all (all_behind by e)
suits_behind tail ends (suits_others e begins) by = suits_all (others_behind by e)
suits_behind tail ends suits_object here = suits_object
suits_behind tail ends suits_object (later needed free further) = elim further [ ]
suits_behind {more = more} {number = number} {count = count} {sort = sort} tail ends (suits_specifier item) by = subst (Suits InSpecifier (after number count sort more)) (sym (ends refl)) suits_end

-- what is around what stands in a node
suits_inside : (work : Work) (names : Role) (head : Head) (source : Bool) (inside : List Item) → stays work head inside ≡ true → Suits (around_in head inside) (slots_of source (fields names head)) inside
suits_inside work names h.ObjectLit source inside e = suits_object
suits_inside work names h.ImportNamedSpecifier source [] e = suits_all refl
suits_inside work names h.ImportNamedSpecifier source (item ∷ []) e = suits_specifier item
suits_inside work names h.ImportNamedSpecifier source (item ∷ other ∷ rest) e = suits_all refl
suits_inside work names h.ExportNamedSpecifier source [] e = suits_all refl
suits_inside work names h.ExportNamedSpecifier source (item ∷ []) e = suits_specifier item
suits_inside work names h.ExportNamedSpecifier source (item ∷ other ∷ rest) e = suits_all refl
suits_inside work names (h.AssignExpr op) source inside e = suits_others refl (so_false (begins_with_member inside) e)
suits_inside work names (h.OptChainExpr optional) source inside e = suits_others refl (so_false (begins_with_member inside) e)
suits_inside work names (h.NewExpr false) source inside e = suits_all refl
suits_inside work names (h.NewExpr true) source inside e = suits_all refl
suits_inside work names (h.NamedExport meta) false inside e = suits_all refl
suits_inside work names (h.NamedExport meta) true inside e = suits_all refl
suits_inside work names _ source inside e = suits_all refl

-- What is left of a row of fields.

record Left (around : Around) (slots : List Slot) (made tail : List Item) : Type 0 where
  left : List Slot
  suits : Suits around left tail
  behind : AreIn left tail
  again : (rest : List Item) → AreIn left rest → AreIn slots (made ++ rest)

-- nothing is left
whole_row : {around : Around} {slots : List Slot} {made : List Item} → Left around slots made [] → AreIn slots made
whole_row {slots = slots} {made = made} it = subst (AreIn slots) (append-nil made) (it.again [] it.behind)

-- what may stand in a field
record Stands (sort : Sort) (field : ℕ) (made : List Item) : Type 0 where
  first : (count : Count) (more : List Slot) (rest : List Item) → AreIn (after field count sort more) rest → AreIn (slot field count sort ∷ more) (made ++ rest)

as_node : {sort : Sort} {head : Head} {made : List Item} (field : ℕ) → MayHold sort head made → Stands sort field (node field head made)
as_node field held = record { first = hold_first held field }

as_name : {sort : Sort} (field : ℕ) (x : List ℕ) (ctxt : ℕ) (role : Role) → name_of sort ≡ Some role → Stands sort field (h.Ident field x ctxt role ∷ [])
as_name field x ctxt role is = record { first = λ count more rest them. a_name is them }

either : {sort : Sort} {field : ℕ} {one two : List Item} (b : Bool) → Stands sort field one → Stands sort field two → Stands sort field (if b then one else two)
either true first second = first
either false first second = second

end_nil : (front tail : List Item) → front ++ tail ≡ [] → tail ≡ []
end_nil [] tail e = e
end_nil (item ∷ front) tail e = cc

-- in the place of a node
placed : {around : Around} {slots : List Slot} {field : ℕ} {head : Head} {inside tail made : List Item} → Suits around slots (node field head inside ++ tail) → (at : NodeAt slots field head inside tail) → Stands at.sort field made → Left around slots made tail
placed {field = field} {inside = inside} {tail = tail} suits at stands = record {
  left = after field at.count at.sort at.more;
  suits = suits_behind tail (end_nil (inside ++ h.Close ∷ []) tail) suits at.by;
  behind = at.behind;
  again = λ rest them. reach at.by (stands.first at.count at.more rest them);
}

-- in the place of a name
name_placed : {around : Around} {slots : List Slot} {field : ℕ} {x : List ℕ} {ctxt : ℕ} {role : Role} {tail made : List Item} → Suits around slots (h.Ident field x ctxt role ∷ tail) → (at : NameAt slots field role tail) → Stands at.sort field made → Left around slots made tail
name_placed {field = field} {tail = tail} suits at stands = record {
  left = after field at.count at.sort at.more;
  suits = suits_behind tail (λ e. e) suits at.by;
  behind = at.behind;
  again = λ rest them. reach at.by (stands.first at.count at.more rest them);
}

-- Names.

new_name : {sort : Sort} (change : Option Change) (field : ℕ) (x : List ℕ) (ctxt : ℕ) (role : Role) → name_of sort ≡ Some role → Stands sort field (renamed change field x ctxt role ∷ [])
new_name None field x ctxt role is = as_name field x ctxt role is
new_name (Some change) field x ctxt role is = as_name field change.ident.0 change.ident.1 role is

-- a shorthand of an object literal
in_object : (change : Option Change) (field : ℕ) (x : List ℕ) (ctxt : ℕ) (role : Role) → name_of APropertyOrSpread ≡ Some role → Stands APropertyOrSpread field (in_its_place InObject change field x ctxt role)
in_object change field x ctxt role is = either (spells_out change) (as_node field (record { source = false; takes_it = refl; is_held = refl; them = with_key x (renamed change 1 x ctxt role ∷ []) ((new_name {sort = AnExpr} change 1 x ctxt role is).first One [] [] no_more) })) (new_name change field x ctxt role is)
  where
    with_key : (x : List ℕ) (value : List Item) → AreIn (slot 1 One AnExpr ∷ []) value → AreIn (slot 0 One AKey ∷ slot 1 One AnExpr ∷ []) (key_in_object x ++ value)
    with_key x value it = keyed (bytes_eq x (codes "__proto__"))
      where
        keyed : (b : Bool) → AreIn (slot 0 One AKey ∷ slot 1 One AnExpr ∷ []) ((if b then h.Open 0 h.ComputedPropName ∷ h.Open 0 (h.Str x None) ∷ h.Close ∷ h.Close ∷ [] else plain_key x) ++ value)
        keyed true = hold_first {head = h.ComputedPropName} {inside = node 0 (h.Str x None) []} (record { source = false; takes_it = refl; is_held = refl; them = a_node {inside = []} refl no_more no_more }) 0 One (slot 1 One AnExpr ∷ []) value it
        keyed false = a_node {inside = []} refl no_more it

-- the only name of a specifier
in_specifier : {sort : Sort} (change : Option Change) (x : List ℕ) (ctxt : ℕ) (role : Role) (rest : List Item) → name_of sort ≡ Some role → AreIn [] rest → AreIn (slot 0 One sort ∷ slot 1 Optional (AModuleName r.Word) ∷ []) (in_its_place InSpecifier change 0 x ctxt role ++ rest)
in_specifier {sort = sort} change x ctxt role rest is no_more = named (spells_out change)
  where
    named : (b : Bool) → AreIn (slot 0 One sort ∷ slot 1 Optional (AModuleName r.Word) ∷ []) ((if b then renamed change 0 x ctxt role ∷ h.Ident 1 x 0 r.Word ∷ [] else renamed change 0 x ctxt role ∷ []) ++ [])
    named true = (new_name {sort = sort} change 0 x ctxt role is).first One (slot 1 Optional (AModuleName r.Word) ∷ []) (h.Ident 1 x 0 r.Word ∷ []) (a_name refl no_more)
    named false = (new_name {sort = sort} change 0 x ctxt role is).first One (slot 1 Optional (AModuleName r.Word) ∷ []) [] (over refl refl no_more)

object_name : {field : ℕ} {x : List ℕ} {ctxt : ℕ} {role : Role} {tail : List Item} (change : Option Change) → AreIn (slot 0 Many APropertyOrSpread ∷ []) (h.Ident field x ctxt role ∷ tail) → Left InObject (slot 0 Many APropertyOrSpread ∷ []) (in_its_place InObject change field x ctxt role) tail
object_name change (over needed free them) = elim them [ ]
object_name {x = x} {ctxt = ctxt} {role = role} change (a_name is them) = record {
  left = slot 0 Many APropertyOrSpread ∷ [];
  suits = suits_object;
  behind = them;
  again = λ rest more. (in_object change 0 x ctxt role is).first Many [] rest more;
}

specifier_name : {sort : Sort} {field : ℕ} {x : List ℕ} {ctxt : ℕ} {role : Role} (change : Option Change) → AreIn (slot 0 One sort ∷ slot 1 Optional (AModuleName r.Word) ∷ []) (h.Ident field x ctxt role ∷ []) → Left InSpecifier (slot 0 One sort ∷ slot 1 Optional (AModuleName r.Word) ∷ []) (in_its_place InSpecifier change field x ctxt role) []
specifier_name change (over needed free them) = absurd (false≢true (sym needed))
specifier_name {x = x} {ctxt = ctxt} {role = role} change (a_name is them) = record {
  left = [];
  suits = suits_end;
  behind = no_more;
  again = λ rest more. in_specifier change x ctxt role rest is more;
}

-- an occurrence
name_kept : {around : Around} {slots : List Slot} {field : ℕ} {x : List ℕ} {ctxt : ℕ} {role : Role} {tail : List Item} (change : Option Change) → Suits around slots (h.Ident field x ctxt role ∷ tail) → AreIn slots (h.Ident field x ctxt role ∷ tail) → Left around slots (in_its_place around change field x ctxt role) tail
name_kept {field = field} {x = x} {ctxt = ctxt} {role = role} change (suits_all e) them = let at = name_at them in name_placed {x = x} {ctxt = ctxt} (suits_all e) at (new_name change field x ctxt role at.is)
name_kept {field = field} {x = x} {ctxt = ctxt} {role = role} change (suits_others e begins) them = let at = name_at them in name_placed {x = x} {ctxt = ctxt} (suits_others e begins) at (new_name change field x ctxt role at.is)
name_kept change suits_object them = object_name change them
name_kept change (suits_specifier item) them = specifier_name change them

-- Shorthands of patterns.

-- a name that binds or refers, as a pattern
new_binding : {sort : Sort} (change : Option Change) (x : List ℕ) (ctxt : ℕ) (role : Role) → takes sort h.BindingIdent ≡ true → Some (names_in sort) ≡ Some role → MayHold sort h.BindingIdent (renamed change 0 x ctxt role ∷ [])
new_binding {sort = sort} change x ctxt role taken is = record {
  source = false;
  takes_it = taken;
  is_held = refl;
  them = (new_name {sort = AnIdent (names_in sort)} change 0 x ctxt role is).first One [] [] no_more;
}

-- the name of a shorthand, and its default
record Short (names role : Role) (default : List Item) : Type 0 where
  is : Some names ≡ Some role
  default_in : AreIn (slot 1 Optional AnExpr ∷ []) default

bound : {names : Role} {x : List ℕ} {ctxt : ℕ} {role : Role} → AreIn (slot 0 One (AnIdent names) ∷ []) (h.Ident 0 x ctxt role ∷ []) → Some names ≡ Some role
bound (over needed free them) = absurd (false≢true (sym needed))
bound (a_name is them) = is

short_at : {names : Role} {count : Count} {sort : Sort} {more : List Slot} {x : List ℕ} {ctxt : ℕ} {role : Role} {default : List Item} → Reaches (slot 0 One (ABindingIdent names) ∷ slot 1 Optional AnExpr ∷ []) 0 count sort more → MayHold sort h.BindingIdent (h.Ident 0 x ctxt role ∷ []) → AreIn (after 0 count sort more) default → Short names role default
short_at here held behind = record { is = bound held.them; default_in = behind }
short_at (later needed free further) held behind = absurd (false≢true (sym needed))

short : (names : Role) (x : List ℕ) (ctxt : ℕ) (role : Role) (default : List Item) → AreIn (slot 0 One (ABindingIdent names) ∷ slot 1 Optional AnExpr ∷ []) (binding None 0 x ctxt role ++ default) → Short names role default
short names x ctxt role default them =
    let at = node_at 0 h.BindingIdent default (name_whole 0 x ctxt role) them in
    short_at at.by at.held at.behind

-- a default that is there
needed_now : {item : Item} {rest : List Item} → AreIn (slot 1 Optional AnExpr ∷ []) (item ∷ rest) → AreIn (slot 1 One AnExpr ∷ []) (item ∷ rest)
needed_now (over needed free them) = elim them [ ]
needed_now (a_name is them) = a_name is them
needed_now (a_node is within them) = a_node is within them
needed_now (an_export_list is source within them) = an_export_list is source within them

spelled_pattern : (names : Role) (change : Option Change) (x : List ℕ) (ctxt : ℕ) (role : Role) (made : List Item) → Some names ≡ Some role → AreIn (slot 1 Optional AnExpr ∷ []) made → AreIn (slot 1 One (APattern names) ∷ []) (pattern_in_its_place change x ctxt role made)
spelled_pattern names change x ctxt role [] is them = hold_first (new_binding {sort = APattern names} change x ctxt role refl is) 1 One [] [] no_more
spelled_pattern names change x ctxt role (item ∷ rest) is them =
    hold_alone {sort = APattern names} 1 h.AssignPat (record {
      source = false;
      takes_it = refl;
      is_held = refl;
      them = hold_first (new_binding {sort = APattern names} change x ctxt role refl is) 0 One (slot 1 One AnExpr ∷ []) (item ∷ rest) (needed_now them);
    })

short_kept : (sort : Sort) (field : ℕ) (change : Option Change) (x : List ℕ) (ctxt : ℕ) (role : Role) (made : List Item) → takes sort h.AssignPatProp ≡ true → Some (names_in sort) ≡ Some role → AreIn (slot 1 Optional AnExpr ∷ []) made → Stands sort field (shorthand_in_its_place change field x ctxt role made)
short_kept (APatternProperty names) field change x ctxt role made taken is them =
    either (spells_out change)
    (as_node field (record { source = false; takes_it = refl; is_held = refl; them = a_node {inside = []} refl no_more (spelled_pattern names change x ctxt role made is them) }))
    (as_node field (record { source = false; takes_it = refl; is_held = refl; them = hold_first (new_binding {sort = ABindingIdent names} change x ctxt role refl is) 0 One (slot 1 Optional AnExpr ∷ []) made them }))
short_kept _ field change x ctxt role made taken is them = absurd (false≢true taken)

-- Nodes.

-- a node with what was made in it
with_inside : {around : Around} {sort : Sort} {head : Head} {inside made : List Item} → (held : MayHold sort head inside) → Left around (slots_of held.source (fields (names_in sort) head)) made [] → MayHold sort head made
with_inside held left = record { source = held.source; takes_it = held.takes_it; is_held = held.is_held; them = whole_row left }

declared : (sort : Sort) (kind : VarDeclKind) (notes other : ExportMetadata) → takes sort (h.VarDecl kind notes) ≡ true → takes sort (h.VarDecl kind other) ≡ true
declared AnItem kind notes other taken = refl
declared AStmt kind notes other taken = refl
declared AnInit kind notes other taken = refl
declared ALoopHead kind notes other taken = refl
declared ADecl kind notes other taken = refl
declared AVarDecl kind notes other taken = refl
declared _ kind notes other taken = absurd (false≢true taken)

with_notes : {sort : Sort} {kind : VarDeclKind} {notes : ExportMetadata} {made : List Item} (other : ExportMetadata) → MayHold sort (h.VarDecl kind notes) made → MayHold sort (h.VarDecl kind other) made
with_notes {sort = sort} {kind = kind} {notes = notes} other held = record { source = held.source; takes_it = declared sort kind notes other held.takes_it; is_held = refl; them = held.them }

kept_others : (head : Head) (first : ℕ) (names : Role) (source : Bool) → keeps_first head first ≡ true → may_others_refer (slots_of source (fields names head)) ≡ true
kept_others (h.AssignExpr op) first names source keeps = refl
kept_others (h.OptChainExpr optional) first names source keeps = refl
kept_others _ first names source keeps = absurd (false≢true keeps)

-- a reference in the place of a member expression
refers_at : {slots more : List Slot} {field number : ℕ} {count : Count} {sort : Sort} {rest : List Item} → Suits Anywhere slots (h.Open field h.MemberExpr ∷ rest) → Reaches slots number count sort more → may_refer sort ≡ true
refers_at (suits_all e) by = refers_there by e
refers_at (suits_others e begins) by = absurd (false≢true (sym begins))

-- the same lists, with nothing behind them
nil_suits : {around : Around} {slots : List Slot} (items : List Item) → Suits around slots items → Suits around slots (items ++ [])
nil_suits {around = around} {slots = slots} items suits = subst (Suits around slots) (sym (append-nil items)) suits

nil_row : {slots : List Slot} {items : List Item} → AreIn slots items → AreIn slots (items ++ [])
nil_row {slots = slots} {items = items} them = subst (AreIn slots) (sym (append-nil items)) them

-- what stands in fields there stands after it
keeps : {around : Around} {work rest : Work} {before made : List Item} → Becomes around work before made rest → (slots : List Slot) (tail : List Item) → Suits around slots (before ++ tail) → AreIn slots (before ++ tail) → Left around slots made tail
keeps Nothing slots tail suits them = record { left = slots; suits = suits; behind = them; again = λ rest more. more }
keeps {around = around} (Joined {first = first} {made_first = made_first} {second = second} {made_second = made_second} one two) slots tail suits them =
    let front = keeps one slots (second ++ tail) (subst (Suits around slots) (append_assoc first second tail) suits) (subst (AreIn slots) (append_assoc first second tail) them) in
    let back = keeps two front.left tail front.suits front.behind in
    record {
      left = back.left;
      suits = back.suits;
      behind = back.behind;
      again = λ rest more. subst (AreIn slots) (sym (append_assoc made_first made_second rest)) (front.again (made_second ++ rest) (back.again rest more));
    }
keeps (Hole field) slots tail suits them =
    let at = hole_at them in
    record {
      left = slot field Places at.sort ∷ at.more;
      suits = suits_behind tail (λ e. e) suits at.by;
      behind = at.behind;
      again = λ rest more. reach at.by (a_hole more);
    }
keeps (Word field x ctxt role plain) slots tail suits them = let at = name_at them in name_placed {x = x} {ctxt = ctxt} suits at (as_name field x ctxt role at.is)
keeps (Name around {work = work} field x ctxt role occurs) slots tail suits them = name_kept (next work x) suits them
keeps (Inside {work = work} field head {inside = inside} is_same one) slots tail suits them =
    let at = node_at field head tail (before_whole one) them in
    let left = keeps one (slots_of at.held.source (fields (names_in at.sort) head)) [] (nil_suits inside (suits_inside work (names_in at.sort) head at.held.source inside is_same)) (nil_row at.held.them) in
    placed suits at (as_node field (with_inside at.held left))
keeps (Declaration {work = work} field kind notes {inside = inside} one) slots tail suits them =
    let at = node_at field (h.VarDecl kind notes) tail (before_whole one) them in
    let left = keeps one (slots_of at.held.source (fields (names_in at.sort) (h.VarDecl kind notes))) [] (suits_all refl) (nil_row at.held.them) in
    placed suits at (as_node field (with_notes (kept_notes work.clears_notes notes) (with_inside at.held left)))
keeps (Kept field head first {made = made} {more = more} {made_more = made_more} kept one two) slots tail suits them =
    let at = node_at field head tail (both_whole (node_whole first h.MemberExpr (before_whole one)) (before_whole two)) them in
    let those : List Slot = slots_of at.held.source (fields (names_in at.sort) head) in
    let member = node_at first h.MemberExpr more (before_whole one) at.held.them in
    let front = keeps one (slots_of member.held.source (fields (names_in member.sort) h.MemberExpr)) [] (suits_all refl) (nil_row member.held.them) in
    let back = keeps two (after first member.count member.sort member.more) [] (suits_all (others_behind member.by (kept_others head first (names_in at.sort) at.held.source kept))) (nil_row member.behind) in
    let within : AreIn those (node first h.MemberExpr made ++ made_more) = reach member.by (hold_first (with_inside member.held front) first member.count member.more made_more (whole_row back)) in
    placed suits at (as_node field (record { source = at.held.source; takes_it = at.held.takes_it; is_held = at.held.is_held; them = within }))
keeps (Shorthand {work = work} field x ctxt role {default = default} {made = made} occurs one) slots tail suits them =
    let at = node_at field h.AssignPatProp tail (both_whole (binding_whole x ctxt role) (before_whole one)) them in
    let it = short (names_in at.sort) x ctxt role default at.held.them in
    let left = keeps one (slot 1 Optional AnExpr ∷ []) [] (suits_all refl) (nil_row it.default_in) in
    placed suits at (short_kept at.sort field (next work x) x ctxt role made at.held.takes_it it.is (whole_row left))
keeps (OfReads {work = work} field name inside found) slots tail suits them =
    let at = node_at field h.MemberExpr tail (member_whole (upcoming work) inside name found) them in
    placed suits at (as_name field name.0 name.1 r.Reference (refers at.sort (refers_at suits at.by) at.held.takes_it))
keeps (OfCall {work = work} field name inside found) slots tail suits them =
    let at = node_at field h.CallExpr tail (literal_call_whole (upcoming work) inside name found) them in
    placed suits at (as_node field (record { source = false; takes_it = at.held.takes_it; is_held = refl; them = a_name refl (over refl refl no_more) }))
keeps (OfMeta field kind name found) slots tail suits them =
    let at = node_at field (h.MetaPropExpr kind) tail none_whole them in
    placed suits at (as_name field name.0 name.1 r.Reference (meta_refers at.sort kind at.held.takes_it))

-- What stands there, by its place.

-- in these fields, and the properties of an object literal
pub kept_fields : {slots : List Slot} {work rest : Work} {before made : List Item} → may_all_refer slots ≡ true → Becomes Anywhere work before made rest → AreIn slots before → AreIn slots made
kept_fields {slots = slots} {before = before} may one them = whole_row (keeps one slots [] (suits_all may) (nil_row them))

pub kept_properties : {work rest : Work} {before made : List Item} → Becomes InObject work before made rest → AreIn (slot 0 Many APropertyOrSpread ∷ []) before → AreIn (slot 0 Many APropertyOrSpread ∷ []) made
kept_properties one them = whole_row (keeps one (slot 0 Many APropertyOrSpread ∷ []) [] suits_object (nil_row them))

-- one name or one node
pub kept_place : {sort : Sort} {field : ℕ} {work rest : Work} {before made : List Item} → may_refer sort ≡ true → Becomes Anywhere work before made rest → IsIn sort field before → IsIn sort field made
kept_place {sort = sort} may one it = only (kept_fields (both_true (may_refer sort) true may refl) one (last it))

-- each number of them
pub kept_each : {sort : Sort} {field : ℕ} {work rest : Work} {before made : List Item} → may_refer sort ≡ true → Becomes Anywhere work before made rest → AreEach sort field before → AreEach sort field made
kept_each {sort = sort} may one them = each_of (kept_fields (both_true (may_refer sort) true may refl) one (last_each them))
