-- A listing stays one with other identifiers.
use Rattle.std.proofs.Common.{◌≡◌, ℕ, Bool, true, false, List, [], ◌∷◌, ◌++◌, Option, Some, None, append_assoc, append-nil, bytes_eq, codes, refl, sym, subst, eqb-true, eq-eqb}
use Rattle.std.specs.Prelude.{if◌then◌else◌}
use Rattle.std.proofs.lemmas.Bool.{and_parts, and_from}
use Rattle.bundle_syntax.specs.declared.piece.Role.{Role}
use Rattle.bundle_syntax.specs.declared.piece.Role.TheVariants as r
use Rattle.bundle_syntax.specs.Item as h
use Rattle.bundle_syntax.specs.Item.{Item, Head}
use Rattle.bundle_rules.specs.Nodes.{Text}
use Rattle.bundle_rules.specs.Cleared.{cleared_head, tidied}
use Rattle.bundle_rules.specs.Rebuilds.{Change, spells_out, plain_key, key_in_object}
use Rattle.bundle_tree_places.specs.Edits as c
use Rattle.bundle_tree_places.specs.Edits.{Around, Anywhere, InObject, InSpecifier, Edits, node as node_of, next, renamed, around_in, in_its_place, binding, pattern_in_its_place, shorthand_in_its_place}
use Rattle.bundle_merge_theory.specs.noted.Agrees.{IsListing}
use Rattle.bundle_merge_theory.specs.noted.Listed.{Stand, Other, InReadOrCall, AtTarget, first_stand, next_to, NameFits, NodeFits, AreListed, nothing, name, hole, node}
use Rattle.bundle_merge_theory.proofs.noted.Listing.{is_listing}
use Rattle.bundle_merge_theory.proofs.finished.Twice.{tidied-append}
use Rattle.bundle_merge_theory.specs.finished.Lists.{fits_name, fits_node, are_listed}

-- What fits.

node-fits : (s : Stand) (field : ℕ) → fits_node s field ≡ true → NodeFits s field
node-fits Other field e = tt
node-fits InReadOrCall field e = tt
node-fits AtTarget field e = eqb-true field 1 e

name-fits : (s : Stand) (role : Role) → fits_name s role ≡ true → NameFits s role
name-fits Other role e = tt
name-fits InReadOrCall role e = e
name-fits AtTarget role e = tt

fits-node : (s : Stand) (field : ℕ) → NodeFits s field → fits_node s field ≡ true
fits-node Other field e = refl
fits-node InReadOrCall field e = refl
fits-node AtTarget field e = eq-eqb field 1 e

fits-name : (s : Stand) (role : Role) → NameFits s role → fits_name s role ≡ true
fits-name Other role e = refl
fits-name InReadOrCall role e = e
fits-name AtTarget role e = refl

-- what is listed passes
listed-are : {s : Stand} {l : List Item} → AreListed s l → (outer : List Stand) (post : List Item) →
    ((u : Stand) → are_listed u outer post ≡ true) → are_listed s outer (l ++ post) ≡ true
listed-are {s = s} nothing outer post behind = behind s
listed-are {s = s} (name {field = field} {ctxt = ctxt} {sym = x} {role = role} {rest = rest} fits its) outer post behind = and_from (fits_name s role) (are_listed (next_to s) outer (rest ++ post)) (fits-name s role fits) (listed-are its outer post behind)
listed-are (hole its) outer post behind = listed-are its outer post behind
listed-are {s = s} (node {field = field} {head = head} {inside = inside} {rest = rest} fits one its) outer post behind =
    and_from (fits_node s field) (are_listed (first_stand head) (next_to s ∷ outer) ((inside ++ h.Close ∷ rest) ++ post)) (fits-node s field fits)
    (subst (λ l. are_listed (first_stand head) (next_to s ∷ outer) l ≡ true) (sym (append_assoc inside (h.Close ∷ rest) post))
    (listed-are one (next_to s ∷ outer) (h.Close ∷ (rest ++ post)) (λ u. listed-are its outer post behind)))

-- Where something stands.

-- in an object literal or a specifier anything may stand
data At : Around → Stand → Type 0 where
  at_any : {s : Stand} → At Anywhere s
  in_object : At InObject Other
  in_specifier : At InSpecifier Other

at-next : {around : Around} {s : Stand} → At around s → At around (next_to s)
at-next at_any = at_any
at-next in_object = in_object
at-next in_specifier = in_specifier

at-inside : (head : Head) (inside : List Item) → At (around_in head inside) (first_stand head)
at-inside h.ObjectLit inside = in_object
at-inside h.ImportNamedSpecifier [] = at_any
at-inside h.ImportNamedSpecifier (x ∷ []) = in_specifier
at-inside h.ImportNamedSpecifier (x ∷ y ∷ rest) = at_any
at-inside h.ExportNamedSpecifier [] = at_any
at-inside h.ExportNamedSpecifier (x ∷ []) = in_specifier
at-inside h.ExportNamedSpecifier (x ∷ y ∷ rest) = at_any
at-inside _ inside = at_any

-- What is passed.

behind-node : (s : Stand) (outer : List Stand) (field : ℕ) (head : Head) (inside post : List Item) →
    are_listed s outer (node_of field head inside ++ post) ≡ true →
    (fits_node s field ≡ true) ×
    (are_listed (first_stand head) (next_to s ∷ outer) (inside ++ h.Close ∷ post) ≡ true)
behind-node s outer field head inside post e =
    let both = and_parts (fits_node s field) (are_listed (first_stand head) (next_to s ∷ outer) ((inside ++ h.Close ∷ []) ++ post)) e in
    (both.0, subst (λ l. are_listed (first_stand head) (next_to s ∷ outer) l ≡ true) (append_assoc inside (h.Close ∷ []) post) both.1)

behind-short : (s : Stand) (outer : List Stand) (field : ℕ) (x : Text) (ctxt : ℕ) (role : Role)
    (default post : List Item) →
    are_listed s outer
    (node_of field h.AssignPatProp (binding None 0 x ctxt role ++ default) ++ post) ≡
    true →
    (fits_node s field ≡ true) ×
    (are_listed Other (next_to s ∷ outer) (default ++ h.Close ∷ post) ≡ true)
behind-short s outer field x ctxt role default post e =
    behind-node s outer field h.AssignPatProp (binding None 0 x ctxt role ++ default) post e

passed : {around : Around} {changes rest : List Change} {before made : List Item} →
    Edits around changes before made rest → (s : Stand) (outer : List Stand) (post : List Item) →
    are_listed s outer (before ++ post) ≡ true → (u : Stand) × (are_listed u outer post ≡ true)
passed c.Nothing s outer post e = (s, e)
passed (c.Joined {first = first} {second = second} d f) s outer post e =
    let one = passed d s outer (second ++ post) (subst (λ l. are_listed s outer l ≡ true) (append_assoc first second post) e) in
    passed f one.0 outer post one.1
passed (c.Hole field) s outer post e = (next_to s, e)
passed (c.Word field x ctxt role plain) s outer post e =
    (next_to s, (and_parts (fits_name s role) (are_listed (next_to s) outer post) e).1)
passed (c.Name around field x ctxt role occurs) s outer post e =
    (next_to s, (and_parts (fits_name s role) (are_listed (next_to s) outer post) e).1)
passed (c.Inside field head {inside = inside} plain one) s outer post e =
    let its = behind-node s outer field head inside post e in
    let more = passed one (first_stand head) (next_to s ∷ outer) (h.Close ∷ post) its.1 in
    (next_to s, more.1)
passed (c.Shorthand field x ctxt role {default = default} occurs one) s outer post e =
    let its = behind-short s outer field x ctxt role default post e in
    let more = passed one Other (next_to s ∷ outer) (h.Close ∷ post) its.1 in
    (next_to s, more.1)

-- What is made.

one-node : {s : Stand} (field : ℕ) (head : Head) (inside tail : List Item) →
    fits_node s field ≡ true → AreListed (first_stand head) inside → AreListed (next_to s) tail →
    AreListed s (node_of field head inside ++ tail)
one-node {s = s} field head inside tail fits one its =
    subst (λ l. AreListed s (h.Open field head ∷ l)) (sym (append_assoc inside (h.Close ∷ []) tail))
    (node (node-fits s field fits) one its)

one-name : {s : Stand} (change : Option Change) (field : ℕ) (x : Text) (ctxt : ℕ) (role : Role)
    (tail : List Item) →
    fits_name s role ≡ true → AreListed (next_to s) tail →
    AreListed s (renamed change field x ctxt role ∷ tail)
one-name {s = s} None field x ctxt role tail fits its = name (name-fits s role fits) its
one-name {s = s} (Some change) field x ctxt role tail fits its = name (name-fits s role fits) its

key-listed : (computed : Bool) (x : Text) (tail : List Item) → AreListed Other tail →
    AreListed Other
    ((if computed then h.Open 0 h.ComputedPropName ∷ h.Open 0 (h.Str x None) ∷ h.Close ∷ h.Close ∷ [] else plain_key x) ++ tail)
key-listed true x tail its =
    one-node 0 h.ComputedPropName (node_of 0 (h.Str x None) []) tail refl
    (one-node 0 (h.Str x None) [] [] refl nothing nothing) its
key-listed false x tail its = one-node 0 (h.IdentName x) [] tail refl nothing its

pair-listed : (change : Option Change) (field : ℕ) (x : Text) (ctxt : ℕ) (role : Role)
    (tail : List Item) →
    AreListed Other tail →
    AreListed Other
    (node_of field h.KeyValueProp (key_in_object x ++ renamed change 1 x ctxt role ∷ []) ++ tail)
pair-listed change field x ctxt role tail its =
    one-node field h.KeyValueProp (key_in_object x ++ renamed change 1 x ctxt role ∷ []) tail refl
    (key-listed (bytes_eq x (codes "__proto__")) x (renamed change 1 x ctxt role ∷ []) (one-name change 1 x ctxt role [] refl nothing))
    its

place-listed : {around : Around} {s : Stand} → At around s →
    (change : Option Change) (field : ℕ) (x : Text) (ctxt : ℕ) (role : Role) (tail : List Item) →
    fits_name s role ≡ true → AreListed (next_to s) tail →
    AreListed s (in_its_place around change field x ctxt role ++ tail)
place-listed at_any change field x ctxt role tail fits its =
    one-name change field x ctxt role tail fits its
place-listed in_object change field x ctxt role tail fits its = by_spelled (spells_out change)
  where
    by_spelled : (b : Bool) →
        AreListed Other
        ((if b then node_of field h.KeyValueProp (key_in_object x ++ renamed change 1 x ctxt role ∷ []) else renamed change field x ctxt role ∷ []) ++ tail)
    by_spelled true = pair-listed change field x ctxt role tail its
    by_spelled false = one-name change field x ctxt role tail refl its
place-listed in_specifier change field x ctxt role tail fits its = by_spelled (spells_out change)
  where
    by_spelled : (b : Bool) →
        AreListed Other
        ((if b then renamed change field x ctxt role ∷ h.Ident 1 x 0 r.Word ∷ [] else renamed change field x ctxt role ∷ []) ++ tail)
    by_spelled true =
        one-name change field x ctxt role (h.Ident 1 x 0 r.Word ∷ tail) refl (name tt its)
    by_spelled false = one-name change field x ctxt role tail refl its

binding-listed : {s : Stand} (change : Option Change) (field : ℕ) (x : Text) (ctxt : ℕ)
    (role : Role) (tail : List Item) →
    fits_node s field ≡ true → AreListed (next_to s) tail →
    AreListed s (binding change field x ctxt role ++ tail)
binding-listed change field x ctxt role tail fits its =
    one-node field h.BindingIdent (renamed change 0 x ctxt role ∷ []) tail fits
    (one-name change 0 x ctxt role [] refl nothing) its

pattern-listed : (change : Option Change) (x : Text) (ctxt : ℕ) (role : Role) (default : List Item)
    →
    AreListed Other default → AreListed Other (pattern_in_its_place change x ctxt role default)
pattern-listed change x ctxt role [] its =
    subst (AreListed Other) (append-nil (binding change 1 x ctxt role))
    (binding-listed change 1 x ctxt role [] refl nothing)
pattern-listed change x ctxt role (y ∷ ys) its =
    subst (AreListed Other)
    (append-nil (node_of 1 h.AssignPat (binding change 0 x ctxt role ++ y ∷ ys)))
    (one-node 1 h.AssignPat (binding change 0 x ctxt role ++ y ∷ ys) [] refl (binding-listed change 0 x ctxt role (y ∷ ys) refl its) nothing)

short-listed : {s : Stand} (change : Option Change) (field : ℕ) (x : Text) (ctxt : ℕ) (role : Role)
    (made tail : List Item) →
    fits_node s field ≡ true → AreListed Other made → AreListed (next_to s) tail →
    AreListed s (shorthand_in_its_place change field x ctxt role made ++ tail)
short-listed {s = s} change field x ctxt role made tail fits inner its =
    by_spelled (spells_out change)
  where
    by_spelled : (b : Bool) →
        AreListed s
        ((if b then node_of field h.KeyValuePatProp (plain_key x ++ pattern_in_its_place change x ctxt role made) else node_of field h.AssignPatProp (binding change 0 x ctxt role ++ made)) ++ tail)
    by_spelled true =
        one-node field h.KeyValuePatProp
        (plain_key x ++ pattern_in_its_place change x ctxt role made) tail fits
        (key-listed false x (pattern_in_its_place change x ctxt role made) (pattern-listed change x ctxt role made inner))
        its
    by_spelled false =
        one-node field h.AssignPatProp (binding change 0 x ctxt role ++ made) tail fits
        (binding-listed change 0 x ctxt role made refl inner) its

-- the listing
listed-edited : {around : Around} {changes rest : List Change} {before made : List Item} →
    Edits around changes before made rest → (s : Stand) → At around s →
    (outer : List Stand) (post : List Item) → are_listed s outer (before ++ post) ≡ true →
    (tail : List Item) →
    ((u : Stand) → At around u → are_listed u outer post ≡ true → AreListed u tail) →
    AreListed s (made ++ tail)
listed-edited c.Nothing s at outer post e tail behind = behind s at e
listed-edited (c.Joined {first = first} {made_first = made_first} {second = second} {made_second = made_second} d f) s at outer post e tail behind =
    subst (AreListed s) (sym (append_assoc made_first made_second tail))
    (listed-edited d s at outer (second ++ post) (subst (λ l. are_listed s outer l ≡ true) (append_assoc first second post) e) (made_second ++ tail) (λ u a k. listed-edited f u a outer post k tail behind))
listed-edited (c.Hole field) s at outer post e tail behind =
    hole (behind (next_to s) (at-next at) e)
listed-edited (c.Word field x ctxt role plain) s at outer post e tail behind =
    let both = and_parts (fits_name s role) (are_listed (next_to s) outer post) e in
    name (name-fits s role both.0) (behind (next_to s) (at-next at) both.1)
listed-edited (c.Name around {changes = changes} field x ctxt role occurs) s at outer post e tail behind =
    let both = and_parts (fits_name s role) (are_listed (next_to s) outer post) e in
    place-listed at (next changes) field x ctxt role tail both.0 (behind (next_to s) (at-next at) both.1)
listed-edited (c.Inside field head {inside = inside} {made = made} plain one) s at outer post e tail behind =
    let its = behind-node s outer field head inside post e in
    let inner : AreListed (first_stand head) (made ++ []) = listed-edited one (first_stand head) (at-inside head inside) (next_to s ∷ outer) (h.Close ∷ post) its.1 [] (λ u a k. nothing) in
    let more = passed one (first_stand head) (next_to s ∷ outer) (h.Close ∷ post) its.1 in
    one-node field head made tail its.0 (subst (AreListed (first_stand head)) (append-nil made) inner) (behind (next_to s) (at-next at) more.1)
listed-edited (c.Shorthand {changes = changes} field x ctxt role {default = default} {made = made} occurs one) s at outer post e tail behind =
    let its = behind-short s outer field x ctxt role default post e in
    let more = passed one Other (next_to s ∷ outer) (h.Close ∷ post) its.1 in
    short-listed (next changes) field x ctxt role made tail its.0
    (subst (AreListed Other) (append-nil made) (listed-edited one Other at_any (next_to s ∷ outer) (h.Close ∷ post) its.1 [] (λ u a n. nothing)))
    (behind (next_to s) (at-next at) more.1)

pub listed-again : {changes rest : List Change} {before made : List Item} → AreListed Other before →
    Edits Anywhere changes before made rest → AreListed Other made
listed-again {before = before} {made = made} listed edits =
    subst (AreListed Other) (append-nil made)
    (listed-edited edits Other at_any [] [] (listed-are listed [] [] (λ u. refl)) [] (λ u a k. nothing))

-- a tidy listing
first-tidied : (head : Head) → first_stand (cleared_head head) ≡ first_stand head
first-tidied (h.ImportDecl meta) = refl
first-tidied (h.NamedExport meta) = refl
first-tidied (h.ExportAll meta) = refl
first-tidied (h.VarDecl kind meta) = refl
first-tidied _ = refl

pub listed-tidied : {s : Stand} {l : List Item} → AreListed s l → AreListed s (tidied l)
listed-tidied nothing = nothing
listed-tidied (name {role = r.Word} fits its) = name fits (listed-tidied its)
listed-tidied (name {role = r.Binding} fits its) = name fits (listed-tidied its)
listed-tidied (name {role = r.Reference} fits its) = name fits (listed-tidied its)
listed-tidied (hole its) = hole (listed-tidied its)
listed-tidied {s = s} (node {field = field} {head = head} {inside = inside} {rest = rest} fits one its) =
    subst (λ l. AreListed s (h.Open field (cleared_head head) ∷ l)) (sym (tidied-append inside (h.Close ∷ rest)))
    (node fits (subst (λ k. AreListed k (tidied inside)) (sym (first-tidied head)) (listed-tidied one)) (listed-tidied its))

pub listing-again : {changes rest : List Change} {before made : List Item} →
    AreListed Other before → Edits Anywhere changes before made rest → IsListing made
listing-again listed edits = is_listing (listed-again listed edits)
