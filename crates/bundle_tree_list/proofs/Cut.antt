-- A list of nodes that stand in one field ends where the field does.
use Rattle.std.proofs.Common.{◌≡◌, ℕ, zero, suc, true, false, cond, eqb, arith, tests, refl, sym, ap, ◌∙◌, subst, List, [], ◌∷◌, ◌++◌, Option, Some, None, append_assoc, append-nil}
use Rattle.bundle_syntax.specs.Item as h
use Rattle.bundle_syntax.specs.Item.{Item, Head}
use Rattle.bundle_syntax.specs.declared.piece.Role.{Role}
use Rattle.std.specs.List.{flat_map}
use Rattle.bundle_tree_listed.specs.Tree.{node, option_items}
use Rattle.bundle_rules.specs.Nodes.{put_first, side_by_side}

abbrev keep : Item → List Item × List Item → List Item × List Item
keep it cut = (it ∷ cut.0, cut.1)

-- the elements at the beginning that stand in the field, so far below the top
pub cut : (field depth : ℕ) → List Item → List Item × List Item
cut field depth [] = ([], [])
cut field zero (h.Open f head ∷ rest) = cond (eqb f field) (keep (h.Open f head) (cut field 1 rest)) ([], h.Open f head ∷ rest)
cut field zero (h.Ident f sym ctxt role ∷ rest) = cond (eqb f field) (keep (h.Ident f sym ctxt role) (cut field 0 rest)) ([], h.Ident f sym ctxt role ∷ rest)
cut field zero (h.Hole f ∷ rest) = cond (eqb f field) (keep (h.Hole f) (cut field 0 rest)) ([], h.Hole f ∷ rest)
cut field zero (h.Close ∷ rest) = ([], h.Close ∷ rest)
cut field (suc depth) (h.Open f head ∷ rest) = keep (h.Open f head) (cut field (suc (suc depth)) rest)
cut field (suc depth) (h.Ident f sym ctxt role ∷ rest) = keep (h.Ident f sym ctxt role) (cut field (suc depth) rest)
cut field (suc depth) (h.Hole f ∷ rest) = keep (h.Hole f) (cut field (suc depth) rest)
cut field (suc depth) (h.Close ∷ rest) = keep h.Close (cut field depth rest)

-- one list before what was cut of the other
abbrev before : List Item → List Item × List Item → List Item × List Item
before xs cut = (xs ++ cut.0, cut.1)

-- these elements in front of the first of the nodes
abbrev pub put_all : List Item → List (List Item) → List (List Item)
put_all [] nodes = nodes
put_all (x ∷ xs) nodes = put_first x (put_all xs nodes)

put_all-append : (xs ys : List Item) (nodes : List (List Item)) → put_all (xs ++ ys) nodes ≡ put_all xs (put_all ys nodes)
put_all-append [] ys nodes = refl
put_all-append (x ∷ xs) ys nodes = ap (put_first x) (put_all-append xs ys nodes)

put_all-cons : (xs node : List Item) (more : List (List Item)) → put_all xs (node ∷ more) ≡ (xs ++ node) ∷ more
put_all-cons [] node more = refl
put_all-cons (x ∷ xs) node more = ap (put_first x) (put_all-cons xs node more)

-- whole nodes, identifiers and holes, in whatever field
pub record Whole (xs : List Item) : Type 0 where
  pub inside : (field depth : ℕ) (rest : List Item) → cut field (suc depth) (xs ++ rest) ≡ before xs (cut field (suc depth) rest)
  pub nodes : (depth : ℕ) (rest : List Item) → side_by_side (suc depth) (xs ++ rest) ≡ put_all xs (side_by_side (suc depth) rest)

-- the same where all of them stand in one field
pub record Row (field : ℕ) (xs : List Item) : Type 0 where
  pub whole : Whole xs
  pub taken : (rest : List Item) → cut field 0 (xs ++ rest) ≡ before xs (cut field 0 rest)
  pub left : (other : ℕ) → eqb field other ≡ false → (rest : List Item) → cut other 0 rest ≡ ([], rest) → cut other 0 (xs ++ rest) ≡ ([], xs ++ rest)

pub nothing : (field : ℕ) → Row field []
unfolding cut
nothing field = record { whole = record { inside = λ f d rest. refl; nodes = λ d rest. refl }; taken = λ rest. refl; left = λ other apart rest ends. ends }

pub eqb_self : (n : ℕ) → eqb n n ≡ true
eqb_self n = Prim.search (arith, tests)

pub whole_and : {xs ys : List Item} → Whole xs → Whole ys → Whole (xs ++ ys)
whole_and {xs} {ys} x y = record {
  inside = λ f d rest.
      ap (cut f (suc d)) (append_assoc xs ys rest) ∙ (x.inside f d (ys ++ rest) ∙ (ap (before xs) (y.inside f d rest) ∙ ap (λ list. (list, (cut f (suc d) rest).1)) (sym (append_assoc xs ys (cut f (suc d) rest).0))));
  nodes = λ d rest. ap (side_by_side (suc d)) (append_assoc xs ys rest) ∙ (x.nodes d (ys ++ rest) ∙ (ap (put_all xs) (y.nodes d rest) ∙ sym (put_all-append xs ys (side_by_side (suc d) rest))));
}

pub and_then : {field : ℕ} {xs ys : List Item} → Row field xs → Row field ys → Row field (xs ++ ys)
and_then {field} {xs} {ys} x y = record {
  whole = whole_and x.whole y.whole;
  taken = λ rest. ap (cut field 0) (append_assoc xs ys rest) ∙ (x.taken (ys ++ rest) ∙ (ap (before xs) (y.taken rest) ∙ ap (λ list. (list, (cut field 0 rest).1)) (sym (append_assoc xs ys (cut field 0 rest).0))));
  left = λ other apart rest ends. subst (λ list. cut other 0 list ≡ ([], list)) (sym (append_assoc xs ys rest)) (x.left other apart (ys ++ rest) (y.left other apart rest ends));
}

pub ident : (field : ℕ) (sym : List ℕ) (ctxt : ℕ) (role : Role) → Row field (h.Ident field sym ctxt role ∷ [])
unfolding cut
ident field sym ctxt role = record {
  whole = record { inside = λ f d rest. refl; nodes = λ d rest. refl };
  taken = λ rest. ap (λ same. cond same (keep (h.Ident field sym ctxt role) (cut field 0 rest)) ([], h.Ident field sym ctxt role ∷ rest)) (eqb_self field);
  left = λ other apart rest ends. ap (λ same. cond same (keep (h.Ident field sym ctxt role) (cut other 0 rest)) ([], h.Ident field sym ctxt role ∷ rest)) apart;
}

pub hole : (field : ℕ) → Row field (h.Hole field ∷ [])
unfolding cut
hole field = record {
  whole = record { inside = λ f d rest. refl; nodes = λ d rest. refl };
  taken = λ rest. ap (λ same. cond same (keep (h.Hole field) (cut field 0 rest)) ([], h.Hole field ∷ rest)) (eqb_self field);
  left = λ other apart rest ends. ap (λ same. cond same (keep (h.Hole field) (cut other 0 rest)) ([], h.Hole field ∷ rest)) apart;
}

deeper : (head : Head) (f d field : ℕ) {xs : List Item} → Whole xs → (rest : List Item) → keep (h.Open field head) (cut f (suc d) ((xs ++ h.Close ∷ []) ++ rest)) ≡ before (node field head xs) (cut f d rest)
unfolding cut
deeper head f d field {xs} x rest =
    ap (λ list. keep (h.Open field head) (cut f (suc d) list)) (append_assoc xs (h.Close ∷ []) rest)
    ∙ (ap (keep (h.Open field head)) (x.inside f d (h.Close ∷ rest))
    ∙ ap (λ list. (h.Open field head ∷ list, (cut f d rest).1)) (sym (append_assoc xs (h.Close ∷ []) (cut f d rest).0)))

deeper_nodes : (head : Head) (d field : ℕ) {xs : List Item} → Whole xs → (rest : List Item) → side_by_side (suc d) (node field head xs ++ rest) ≡ put_all (node field head xs) (side_by_side (suc d) rest)
deeper_nodes head d field {xs} x rest =
    ap (λ list. put_first (h.Open field head) (side_by_side (suc (suc d)) list)) (append_assoc xs (h.Close ∷ []) rest)
    ∙ (ap (put_first (h.Open field head)) (x.nodes (suc d) (h.Close ∷ rest))
    ∙ ap (put_first (h.Open field head)) (sym (put_all-append xs (h.Close ∷ []) (side_by_side (suc d) rest))))

pub node_row : (field : ℕ) (head : Head) {xs : List Item} → Whole xs → Row field (node field head xs)
unfolding cut
node_row field head {xs} x = record {
  whole = record { inside = λ f d rest. deeper head f (suc d) field x rest; nodes = λ d rest. deeper_nodes head d field x rest };
  taken = λ rest. ap (λ same. cond same (keep (h.Open field head) (cut field 1 ((xs ++ h.Close ∷ []) ++ rest))) ([], node field head xs ++ rest)) (eqb_self field) ∙ deeper head field 0 field x rest;
  left = λ other apart rest ends. ap (λ same. cond same (keep (h.Open field head) (cut other 1 ((xs ++ h.Close ∷ []) ++ rest))) ([], node field head xs ++ rest)) apart;
}

-- nothing of the field stands at the beginning
abbrev pub Ends : ℕ → List Item → Type 0
Ends field list = cut field 0 list ≡ ([], list)

pub ends : (field : ℕ) → Ends field []
unfolding cut
ends field = refl

-- two lists that begin with the nodes of one field are equal where both parts are
pub split : {field : ℕ} {xs xs' ys ys' : List Item} → Row field xs → Row field xs' → Ends field ys → Ends field ys' → xs ++ ys ≡ xs' ++ ys' → (xs ≡ xs') × (ys ≡ ys')
split {field} {xs} {xs'} {ys} {ys'} x x' end end' is =
    let left : cut field 0 (xs ++ ys) ≡ (xs, ys) = x.taken ys ∙ (ap (before xs) end ∙ ap (λ list. (list, ys)) (append-nil xs)) in
    let right : cut field 0 (xs' ++ ys') ≡ (xs', ys') = x'.taken ys' ∙ (ap (before xs') end' ∙ ap (λ list. (list, ys')) (append-nil xs')) in
    let both : (xs, ys) ≡ (xs', ys') = sym left ∙ (ap (cut field 0) is ∙ right) in
    (ap (λ p. p.0) both, ap (λ p. p.1) both)

pub no_nodes : Whole []
no_nodes = (nothing 0).whole

-- what stands in an option
pub option_row : {field : ℕ} {A : Type 0} (items : A → List Item) → ((it : A) → Row field (items it)) → (it : Option A) → Row field (option_items items it)
option_row {field} items each None = nothing field
option_row items each (Some it) = each it

-- one after another
pub each_row : {field : ℕ} {A : Type 0} (items : A → List Item) → ((it : A) → Row field (items it)) → (list : List A) → Row field (flat_map items list)
each_row {field} items each [] = nothing field
each_row items each (x ∷ xs) = and_then (each x) (each_row items each xs)

-- the first node, identifier or hole, where nothing behind it stands in this field
pub first_of : (field : ℕ) → List Item → List Item × List Item
first_of field [] = ([], [])
first_of field (h.Open f head ∷ rest) = keep (h.Open f head) (cut field 1 rest)
first_of field (h.Ident f sym ctxt role ∷ rest) = (h.Ident f sym ctxt role ∷ [], rest)
first_of field (h.Hole f ∷ rest) = (h.Hole f ∷ [], rest)
first_of field (h.Close ∷ rest) = (h.Close ∷ [], rest)

-- one node, identifier or hole
pub record Single (xs : List Item) : Type 0 where
  pub first : (field : ℕ) (rest : List Item) → cut field 0 rest ≡ ([], rest) → first_of field (xs ++ rest) ≡ (xs, rest)
  pub beside : (rest : List Item) → side_by_side zero (xs ++ rest) ≡ xs ∷ side_by_side zero rest

pub single_ident : (f : ℕ) (sym : List ℕ) (ctxt : ℕ) (role : Role) → Single (h.Ident f sym ctxt role ∷ [])
unfolding first_of
single_ident f sym ctxt role = record { first = λ field rest ends. refl; beside = λ rest. refl }

pub single_hole : (f : ℕ) → Single (h.Hole f ∷ [])
unfolding first_of
single_hole f = record { first = λ field rest ends. refl; beside = λ rest. refl }

beside_node : (f : ℕ) (head : Head) {xs : List Item} → Whole xs → (rest : List Item) → side_by_side zero (node f head xs ++ rest) ≡ node f head xs ∷ side_by_side zero rest
beside_node f head {xs} x rest =
    ap (λ list. put_first (h.Open f head) (side_by_side (suc zero) list)) (append_assoc xs (h.Close ∷ []) rest)
    ∙ (ap (put_first (h.Open f head)) (x.nodes zero (h.Close ∷ rest))
    ∙ ap (put_first (h.Open f head)) (put_all-cons xs (h.Close ∷ []) (side_by_side zero rest)))

pub single_node : (f : ℕ) (head : Head) {xs : List Item} → Whole xs → Single (node f head xs)
unfolding first_of
single_node f head {xs} x = record { first = λ field rest ends. deeper head field 0 f x rest ∙ (ap (before (node f head xs)) ends ∙ ap (λ list. (list, rest)) (append-nil (node f head xs))); beside = λ rest. beside_node f head x rest }

eqb_suc : (n : ℕ) → eqb n (suc n) ≡ false
eqb_suc n = Prim.search (arith, tests)

ended : {field : ℕ} {xs : List Item} → Row field xs → cut (suc field) 0 xs ≡ ([], xs)
unfolding cut
ended {field = field} {xs = xs} row = subst (λ list. cut (suc field) 0 list ≡ ([], list)) (append-nil xs) (row.left (suc field) (eqb_suc field) [] refl)

pub split_first : {field : ℕ} {x y xs ys : List Item} → Single x → Single y → Row field xs → Row field ys → x ++ xs ≡ y ++ ys → (x ≡ y) × (xs ≡ ys)
split_first {field = field} {x = x} {y = y} {xs = xs} {ys = ys} one other row row' is =
    let both : (x, xs) ≡ (y, ys) = sym (one.first (suc field) xs (ended row)) ∙ (ap (first_of (suc field)) is ∙ other.first (suc field) ys (ended row')) in
    (ap (λ p. p.0) both, ap (λ p. p.1) both)
