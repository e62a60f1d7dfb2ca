-- What has marks is whole nodes; the shapes of static reads and literal calls.
use Rattle.std.proofs.Common.{◌≡◌, ℕ, zero, suc, ◌+◌, true, false, List, [], ◌∷◌, ◌++◌, append_assoc, append-nil, length-append, length, Option, Some, refl, sym, ap, ap₂, ◌∙◌, subst, arith}
use Rattle.std.proofs.lemmas.List.{append_cancel_right}
use Rattle.std.proofs.lemmas.Bool.{false≢true}
use Rattle.std.proofs.lemmas.Option.{none-some, same_Some}
use Rattle.bundle_syntax.specs.declared.piece.Role.{Role}
use Rattle.bundle_syntax.specs.declared.piece.Role.TheVariants as r
use Rattle.bundle_syntax.specs.Item as h
use Rattle.bundle_syntax.specs.Item.{Item, Head}
use Rattle.std.specs.Prelude.{slice_get}
use Rattle.bundle_rules.specs.Places.{Spot, occurrences_from}
use Rattle.bundle_rules.specs.Nodes.{Text}
use Rattle.bundle_rules.specs.Statements.{Element, taken_from}
use Rattle.bundle_rules.specs.Meaning.{Meant, Mark, past_end}
use Rattle.bundle_tree_places.specs.Edits as edits
use Rattle.bundle_merge_theory.specs.noted.Nodes as n
use Rattle.bundle_merge_theory.specs.noted.Nodes.{AreNodesInTurn}
use Rattle.bundle_merge_theory.specs.noted.Marked.{Note, Marked, Nothing, Joined, Hole, Word, Name, Inside, Kept, Shorthand, OfReads, OfCall, OfMeta}
use Rattle.bundle_tree_rebuild.specs.Becomes.{behind_word, behind_reads, is_end, are_reads, is_one_string, is_literal_call}

-- ---- whole nodes
pub join : {xs ys : List Item} → AreNodesInTurn xs → AreNodesInTurn ys → AreNodesInTurn (xs ++ ys)
join n.nothing y = y
join (n.name x) y = n.name (join x y)
join (n.hole x) y = n.hole (join x y)
join {ys = ys} (n.node {field = field} {head = head} {inside = inside} {rest = rest} x more) y =
    subst (λ list. AreNodesInTurn (h.Open field head ∷ list))
    (sym (append_assoc inside (h.Close ∷ rest) ys)) (n.node x (join more y))

pub one_node : (field : ℕ) (head : Head) {inside : List Item} → AreNodesInTurn inside →
    AreNodesInTurn (edits.node field head inside)
one_node field head x = n.node x n.nothing

-- what stands behind the ends of nodes
pub past_nodes : {xs : List Item} → AreNodesInTurn xs →
    (depth place : ℕ) (ys : List Item) (es : List Element) →
    past_end depth (taken_from place (xs ++ ys) ++ es)
    ≡ past_end depth (taken_from (place + length xs) ys ++ es)
past_nodes n.nothing depth place ys es =
    let e : place ≡ place + length {A = Item} [] = omega arith in
    ap (λ p. past_end depth (taken_from p ys ++ es)) e
past_nodes (n.name {rest = rest} x) depth place ys es =
    let e : suc place + length rest ≡ place + suc (length rest) = omega arith in
    past_nodes x depth (suc place) ys es ∙ ap (λ p. past_end depth (taken_from p ys ++ es)) e
past_nodes (n.hole {rest = rest} x) depth place ys es =
    let e : suc place + length rest ≡ place + suc (length rest) = omega arith in
    past_nodes x depth (suc place) ys es ∙ ap (λ p. past_end depth (taken_from p ys ++ es)) e
past_nodes (n.node {field = field} {head = head} {inside = inside} {rest = rest} x more) depth
    place ys es =
    let far : suc (suc place + length inside) + length rest
    ≡ place + suc (length inside + suc (length rest)) =
    omega arith in
    let long = length-append inside (h.Close ∷ rest) in
    let there : suc (suc place + length inside) + length rest
    ≡ place + length (h.Open field head ∷ (inside ++ h.Close ∷ rest)) =
    omega (arith, far, long) in
    ap (λ l. past_end (suc depth) (taken_from (suc place) l ++ es))
    (append_assoc inside (h.Close ∷ rest) ys)
    ∙ past_nodes x (suc depth) (suc place) (h.Close ∷ (rest ++ ys)) es
    ∙ past_nodes more depth (suc (suc place + length inside)) ys es
    ∙ ap (λ p. past_end depth (taken_from p ys ++ es)) there

pub tail_same : {x y : Item} {xs ys : List Item} → x ∷ xs ≡ y ∷ ys → xs ≡ ys
tail_same e = cc

-- the end of whole nodes is where the node around them ends
pub same_nodes : {xs ys : List Item} → AreNodesInTurn xs → AreNodesInTurn ys → (more other : List Item) →
    xs ++ h.Close ∷ more ≡ ys ++ h.Close ∷ other → (xs ≡ ys) × (more ≡ other)
same_nodes n.nothing n.nothing more other e = (refl, tail_same e)
same_nodes n.nothing (n.name y) more other e = cc
same_nodes n.nothing (n.hole y) more other e = cc
same_nodes n.nothing (n.node y z) more other e = cc
same_nodes (n.name x) n.nothing more other e = cc
same_nodes (n.name x) (n.hole y) more other e = cc
same_nodes (n.name x) (n.node y z) more other e = cc
same_nodes (n.name x) (n.name y) more other e =
    let rest = same_nodes x y more other (tail_same e) in (let ends = rest.0 in cc, rest.1)
same_nodes (n.hole x) n.nothing more other e = cc
same_nodes (n.hole x) (n.name y) more other e = cc
same_nodes (n.hole x) (n.node y z) more other e = cc
same_nodes (n.hole x) (n.hole y) more other e =
    let rest = same_nodes x y more other (tail_same e) in (let ends = rest.0 in cc, rest.1)
same_nodes (n.node x w) n.nothing more other e = cc
same_nodes (n.node x w) (n.name y) more other e = cc
same_nodes (n.node x w) (n.hole y) more other e = cc
same_nodes (n.node {field = f} {head = hd} {inside = ins} {rest = rest} x w)
    (n.node {field = g} {head = k} {inside = jns} {rest = sest} y z) more other e =
    let apart : ins ++ h.Close ∷ (rest ++ h.Close ∷ more) ≡ jns ++ h.Close ∷ (sest ++ h.Close ∷ other) =
    sym (append_assoc ins (h.Close ∷ rest) (h.Close ∷ more))
    ∙ tail_same e
    ∙ append_assoc jns (h.Close ∷ sest) (h.Close ∷ other) in
    let in_it = same_nodes x y (rest ++ h.Close ∷ more) (sest ++ h.Close ∷ other) apart in
    let behind = same_nodes w z more other in_it.1 in
    let first : h.Open f hd ≡ h.Open g k = cc in
    (ap₂ (λ a b. a ∷ b) first (ap₂ (λ a b. a ++ h.Close ∷ b) in_it.0 behind.0), behind.1)

-- ---- reads
-- so many static reads around an identifier of this role
pub data IsReads : ℕ → Role → List Item → Type 0 where
  base : {field ctxt : ℕ} {x : Text} {role : Role} →
      IsReads zero role (h.Ident field x ctxt role ∷ [])
  read : {field count : ℕ} {role : Role} {object : List Item} (second : ℕ) (word : Text) →
      IsReads count role object →
      IsReads (suc count) role
      (h.Open field h.MemberExpr
      ∷ (object ++ h.Open second (h.IdentName word) ∷ h.Close ∷ h.Close ∷ []))

pub reads_nodes : {count : ℕ} {role : Role} {xs : List Item} → IsReads count role xs → AreNodesInTurn xs
reads_nodes base = n.name n.nothing
reads_nodes (read {field = field} {object = object} second word it) =
    subst (λ l. AreNodesInTurn (h.Open field h.MemberExpr ∷ l))
    (append_assoc object (h.Open second (h.IdentName word) ∷ h.Close ∷ []) (h.Close ∷ []))
    (one_node field h.MemberExpr
    (join (reads_nodes it) (one_node second (h.IdentName word) n.nothing)))

-- a word and two ends
pub record IsWordBehind (o : Option (List Item)) (rest : List Item) : Type 0 where
  pub field : ℕ
  pub word : Text
  pub is : o ≡ Some (h.Open field (h.IdentName word) ∷ h.Close ∷ h.Close ∷ rest)

pub word_behind : (o : Option (List Item)) (rest : List Item) → behind_word o ≡ Some rest →
    IsWordBehind o rest
word_behind (Some (h.Open field (h.IdentName word) ∷ h.Close ∷ h.Close ∷ more)) rest e =
    record
    { field = field; word = word; is = ap (λ l. Some (h.Open field (h.IdentName word) ∷ h.Close ∷ h.Close ∷ l)) (same_Some more rest e) }
word_behind _ rest e = absurd (none-some rest e)

-- reads, and what stands behind them
pub record BeginsWithReads (count : ℕ) (list rest : List Item) : Type 0 where
  pub xs : List Item
  pub reads : IsReads count r.Reference xs
  pub is : list ≡ xs ++ rest

begins_with_reads : (count : ℕ) (list rest : List Item) → behind_reads count list ≡ Some rest →
    BeginsWithReads count list rest
begins_with_reads zero (h.Ident field x ctxt r.Reference ∷ more) rest e =
    record
    { xs = h.Ident field x ctxt r.Reference ∷ []; reads = base; is = ap (λ l. h.Ident field x ctxt r.Reference ∷ l) (same_Some more rest e) }
begins_with_reads (suc count) (h.Open field h.MemberExpr ∷ more) rest e =
    let word = word_behind (behind_reads count more) rest e in
    let object = begins_with_reads count more _ word.is in
    record {
      xs =
          h.Open field h.MemberExpr
          ∷ (object.xs ++ h.Open word.field (h.IdentName word.word) ∷ h.Close ∷ h.Close ∷ []);
      reads = read word.field word.word object.reads;
      is =
          ap (λ l. h.Open field h.MemberExpr ∷ l)
          (object.is
          ∙ sym
          (append_assoc object.xs
          (h.Open word.field (h.IdentName word.word) ∷ h.Close ∷ h.Close ∷ []) rest));
    }
begins_with_reads _ _ rest e = absurd (none-some rest e)

pub ends_there : (o : Option (List Item)) → is_end o ≡ true → o ≡ Some []
ends_there (Some []) e = refl
ends_there _ e = absurd (false≢true e)

-- what is in a member expression that is just so many static reads
pub record AreReads (field count : ℕ) (inside : List Item) : Type 0 where
  pub reads : IsReads count r.Reference (edits.node field h.MemberExpr inside)

pub in_other_field : {count : ℕ} {role : Role} {xs : List Item} → IsReads count role xs →
    (old field : ℕ) (inside : List Item) → xs ≡ edits.node old h.MemberExpr inside →
    IsReads count role (edits.node field h.MemberExpr inside)
in_other_field base old field inside e = cc
in_other_field {count = suc count} {role = role} (read {object = object} second word it) old field
    inside e =
    subst (λ l. IsReads (suc count) role (h.Open field h.MemberExpr ∷ l)) (tail_same e)
    (read second word it)

pub nodes_in_reads : {count : ℕ} {role : Role} {xs : List Item} → IsReads count role xs →
    (field : ℕ) (inside : List Item) → xs ≡ edits.node field h.MemberExpr inside → AreNodesInTurn inside
nodes_in_reads base field inside e = cc
nodes_in_reads (read {object = object} second word it) field inside e =
    let both =
    append_cancel_right (object ++ h.Open second (h.IdentName word) ∷ h.Close ∷ []) inside
    (h.Close ∷ [])
    (append_assoc object (h.Open second (h.IdentName word) ∷ h.Close ∷ []) (h.Close ∷ [])
    ∙ tail_same e) in
    subst AreNodesInTurn both (join (reads_nodes it) (one_node second (h.IdentName word) n.nothing))

pub reads_inside : (field count : ℕ) (inside : List Item) → are_reads count inside ≡ true →
    AreReads field count inside
reads_inside field count inside e =
    let begins =
    begins_with_reads count (edits.node 0 h.MemberExpr inside) []
    (ends_there (behind_reads count (edits.node 0 h.MemberExpr inside)) e) in
    record
    { reads = in_other_field begins.reads 0 field inside (sym (append-nil begins.xs) ∙ sym begins.is) }

-- ---- literal calls
-- what is in a call of an identifier of this role with one string
pub record IsLiteralCall (role : Role) (inside : List Item) : Type 0 where
  pub field : ℕ
  pub x : Text
  pub ctxt : ℕ
  pub arguments : List Item
  pub one : is_one_string arguments ≡ true
  pub nodes : AreNodesInTurn arguments
  pub no_names : (s : Spot) → occurrences_from s arguments ≡ []
  pub no_name : (j f c : ℕ) (y : Text) (k : Role) →
      slice_get arguments j ≡ Some (h.Ident f y c k) → ⊥
  pub is : inside ≡ h.Ident field x ctxt role ∷ arguments

no_name_there : (second inner : ℕ) (value : Text) (raw : Option Text) (j f c : ℕ) (y : Text)
    (k : Role) →
    slice_get
    (h.Open second (h.ExprOrSpread false) ∷ h.Open inner (h.Str value raw) ∷ h.Close ∷ h.Close
    ∷ [])
    j ≡ Some (h.Ident f y c k) → ⊥
no_name_there second inner value raw zero f c y k e = cc
no_name_there second inner value raw (suc zero) f c y k e = cc
no_name_there second inner value raw (suc (suc zero)) f c y k e = cc
no_name_there second inner value raw (suc (suc (suc zero))) f c y k e = cc
no_name_there second inner value raw (suc (suc (suc (suc j)))) f c y k e = none-some _ e

pub literal_call_of : (field : ℕ) (x : Text) (ctxt : ℕ) (role : Role) (arguments : List Item) →
    is_one_string arguments ≡ true → IsLiteralCall role (h.Ident field x ctxt role ∷ arguments)
literal_call_of field x ctxt role (h.Open second (h.ExprOrSpread false) ∷ h.Open inner (h.Str value raw) ∷ h.Close ∷ h.Close ∷ []) e = record {
  field = field;
  x = x;
  ctxt = ctxt;
  arguments =
      h.Open second (h.ExprOrSpread false) ∷ h.Open inner (h.Str value raw) ∷ h.Close ∷ h.Close
      ∷ [];
  one = refl;
  nodes = one_node second (h.ExprOrSpread false) (one_node inner (h.Str value raw) n.nothing);
  no_names = λ s. refl;
  no_name = no_name_there second inner value raw;
  is = refl;
}
literal_call_of field x ctxt role _ e = absurd (false≢true e)

pub literal_call : (inside : List Item) → is_literal_call inside ≡ true →
    IsLiteralCall r.Reference inside
literal_call (h.Ident field x ctxt r.Reference ∷ arguments) e =
    literal_call_of field x ctxt r.Reference arguments e
literal_call _ e = absurd (false≢true e)

pub call_is_literal : {inside : List Item} → IsLiteralCall r.Reference inside →
    is_literal_call inside ≡ true
call_is_literal its = ap is_literal_call its.is ∙ its.one

pub literal_call_nodes : {role : Role} {inside : List Item} → IsLiteralCall role inside →
    AreNodesInTurn inside
literal_call_nodes its = subst AreNodesInTurn (sym its.is) (n.name its.nodes)

-- ---- what has marks
pub marked_nodes : {meta : Option Meant} {around : edits.Around} {notes rest : List Note}
    {items : List Item} {marks : List Mark} → Marked meta around notes items marks rest →
    AreNodesInTurn items
marked_nodes Nothing = n.nothing
marked_nodes (Joined one two) = join (marked_nodes one) (marked_nodes two)
marked_nodes (Hole field) = n.hole n.nothing
marked_nodes (Word field x ctxt role plain) = n.name n.nothing
marked_nodes (Name around field x ctxt role occurs) = n.name n.nothing
marked_nodes (Inside field head stays one) = one_node field head (marked_nodes one)
marked_nodes (Kept field head first keeps one two) =
    one_node field head (join (one_node first h.MemberExpr (marked_nodes one)) (marked_nodes two))
marked_nodes (Shorthand field x ctxt role occurs one) =
    one_node field h.AssignPatProp
    (join (one_node 0 h.BindingIdent (n.name n.nothing)) (marked_nodes one))
marked_nodes (OfReads field count inside reads) =
    let its = reads_inside field count inside reads in reads_nodes its.reads
marked_nodes (OfCall field inside call) =
    one_node field h.CallExpr (literal_call_nodes (literal_call inside call))
marked_nodes (OfMeta field meant is) = one_node field _ n.nothing
