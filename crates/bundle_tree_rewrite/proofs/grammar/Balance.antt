-- A row of whole nodes ends where it ends: what stands in a node is found from its beginning on.
use Rattle.std.proofs.Common.{◌≡◌, ℕ, zero, suc, Bool, true, false, List, [], ◌∷◌, ◌++◌, append_assoc, append-nil, Option, Some, None, refl, ap, sym, ◌∙◌, subst}
use Rattle.std.specs.Prelude.{if◌then◌else◌}
use Rattle.std.proofs.lemmas.List.{append_cancel_right}
use Rattle.std.proofs.lemmas.Bool.{false≢true}
use Rattle.std.proofs.lemmas.Option.{none-some, same_Some}
use Rattle.bundle_syntax.specs.declared.piece.Role.{Role}
use Rattle.bundle_syntax.specs.declared.piece.Role.TheVariants as r
use Rattle.bundle_syntax.specs.Item as h
use Rattle.bundle_syntax.specs.Item.{Item, Head}
use Rattle.bundle_rules.specs.Idents.{Ident}
use Rattle.bundle_tree_places.specs.Edits.{Around, node, binding}
use Rattle.bundle_tree_parse.specs.Sorts.{Slot}
use Rattle.bundle_tree_parse.specs.Standing.{AreIn, no_more, over, a_name, a_hole, a_node, an_export_list}
use Rattle.bundle_tree_rebuild.specs.declared.rewrite.Whole.{Whole}
use Rattle.bundle_tree_rebuild.specs.declared.rewrite.Whole.TheVariants as w
use Rattle.bundle_tree_rebuild.specs.Work.{Step, Work, upcoming}
use Rattle.bundle_tree_rebuild.specs.Becomes.{Becomes, Nothing, Joined, Hole, Word, Name, Inside, Declaration, Kept, Shorthand, OfReads, OfCall, OfMeta, behind_word, behind_reads, is_end, are_reads, is_literal_call, name_of_reads, name_for_member, name_of_call, name_for_call}

-- what stands before the end of the node that is open, so many nodes deep
abbrev before_end : ℕ → List Item → List Item
before_end depth [] = []
before_end depth (h.Open field head ∷ rest) = h.Open field head ∷ before_end (suc depth) rest
before_end depth (h.Ident field x ctxt role ∷ rest) = h.Ident field x ctxt role ∷ before_end depth rest
before_end depth (h.Hole field ∷ rest) = h.Hole field ∷ before_end depth rest
before_end zero (h.Close ∷ rest) = []
before_end (suc depth) (h.Close ∷ rest) = h.Close ∷ before_end depth rest

-- and what stands behind it
abbrev behind_end : ℕ → List Item → List Item
behind_end depth [] = []
behind_end depth (h.Open field head ∷ rest) = behind_end (suc depth) rest
behind_end depth (h.Ident field x ctxt role ∷ rest) = behind_end depth rest
behind_end depth (h.Hole field ∷ rest) = behind_end depth rest
behind_end zero (h.Close ∷ rest) = rest
behind_end (suc depth) (h.Close ∷ rest) = behind_end depth rest

-- whole nodes and names
pub record AreWhole (items : List Item) : Type 0 where
  pub before_it : (depth : ℕ) (rest : List Item) → before_end depth (items ++ rest) ≡ items ++ before_end depth rest
  pub behind_it : (depth : ℕ) (rest : List Item) → behind_end depth (items ++ rest) ≡ behind_end depth rest

pub none_whole : AreWhole []
none_whole = record { before_it = λ depth rest. refl; behind_it = λ depth rest. refl }

pub name_whole : (field : ℕ) (x : List ℕ) (ctxt : ℕ) (role : Role) → AreWhole (h.Ident field x ctxt role ∷ [])
name_whole field x ctxt role = record { before_it = λ depth rest. refl; behind_it = λ depth rest. refl }

pub hole_whole : (field : ℕ) → AreWhole (h.Hole field ∷ [])
hole_whole field = record { before_it = λ depth rest. refl; behind_it = λ depth rest. refl }

pub both_whole : {first second : List Item} → AreWhole first → AreWhole second → AreWhole (first ++ second)
both_whole {first = first} {second = second} one two = record {
  before_it = λ depth rest. ap (before_end depth) (append_assoc first second rest) ∙ one.before_it depth (second ++ rest) ∙ ap (λ items. first ++ items) (two.before_it depth rest) ∙ sym (append_assoc first second (before_end depth rest));
  behind_it = λ depth rest. ap (behind_end depth) (append_assoc first second rest) ∙ one.behind_it depth (second ++ rest) ∙ two.behind_it depth rest;
}

pub node_whole : (field : ℕ) (head : Head) {inside : List Item} → AreWhole inside → AreWhole (node field head inside)
node_whole field head {inside = inside} it = record {
  before_it = λ depth rest. ap (λ items. h.Open field head ∷ items) (ap (before_end (suc depth)) (append_assoc inside (h.Close ∷ []) rest) ∙ it.before_it (suc depth) (h.Close ∷ rest) ∙ sym (append_assoc inside (h.Close ∷ []) (before_end depth rest)));
  behind_it = λ depth rest. ap (behind_end (suc depth)) (append_assoc inside (h.Close ∷ []) rest) ∙ it.behind_it (suc depth) (h.Close ∷ rest);
}

-- a node and what stands behind it
pub then_whole : (field : ℕ) (head : Head) {inside rest : List Item} → AreWhole inside → AreWhole rest → AreWhole (h.Open field head ∷ (inside ++ h.Close ∷ rest))
then_whole field head {inside = inside} {rest = rest} it others = subst (λ items. AreWhole (h.Open field head ∷ items)) (append_assoc inside (h.Close ∷ []) rest) (both_whole (node_whole field head it) others)

-- what stands before the ends of two nodes is the same where both lists are, and what stands behind them too
pub same_inside : {one two : List Item} (rest other : List Item) → AreWhole one → AreWhole two → one ++ h.Close ∷ rest ≡ two ++ h.Close ∷ other → one ≡ two
same_inside {one = one} {two = two} rest other first second e =
    sym (append-nil one) ∙ sym (first.before_it 0 (h.Close ∷ rest)) ∙ ap (before_end 0) e ∙ second.before_it 0 (h.Close ∷ other) ∙ append-nil two

pub same_behind : {one two : List Item} (rest other : List Item) → AreWhole one → AreWhole two → one ++ h.Close ∷ rest ≡ two ++ h.Close ∷ other → rest ≡ other
same_behind rest other first second e =
    sym (first.behind_it 0 (h.Close ∷ rest)) ∙ ap (behind_end 0) e ∙ second.behind_it 0 (h.Close ∷ other)

-- What stands in fields.

pub fields_whole : {slots : List Slot} {items : List Item} → AreIn slots items → AreWhole items
fields_whole no_more = none_whole
fields_whole (over needed free them) = fields_whole them
fields_whole (a_name {number = number} {x = x} {ctxt = ctxt} {role = role} is them) = both_whole (name_whole number x ctxt role) (fields_whole them)
fields_whole (a_hole {number = number} them) = both_whole (hole_whole number) (fields_whole them)
fields_whole (a_node {number = number} {head = head} is inside them) = then_whole number head (fields_whole inside) (fields_whole them)
fields_whole (an_export_list {number = number} {head = head} is source inside them) = then_whole number head (fields_whole inside) (fields_whole them)

-- What becomes something else.

-- whole nodes and names, and what stands behind them
record BeginsWhole (items rest : List Item) : Type 0 where
  front : List Item
  is : items ≡ front ++ rest
  it_is_whole : AreWhole front

-- a word and the end of the member expression around it
data IsBehindWord : Option (List Item) → List Item → Type 0 where
  is_behind : (field : ℕ) (word : List ℕ) {rest : List Item} → IsBehindWord (Some (h.Open field (h.IdentName word) ∷ h.Close ∷ h.Close ∷ rest)) rest

word_found : (found : Option (List Item)) (rest : List Item) → behind_word found ≡ Some rest → IsBehindWord found rest
word_found (Some (h.Open field (h.IdentName word) ∷ h.Close ∷ h.Close ∷ more)) rest e = subst (IsBehindWord (Some (h.Open field (h.IdentName word) ∷ h.Close ∷ h.Close ∷ more))) (same_Some more rest e) (is_behind field word)
word_found _ rest e = absurd (none-some rest e)

-- one more read
read_more : (field count : ℕ) (more rest : List Item) {found : Option (List Item)} → IsBehindWord found rest → behind_reads count more ≡ found → ((left : List Item) → behind_reads count more ≡ Some left → BeginsWhole more left) → BeginsWhole (h.Open field h.MemberExpr ∷ more) rest
read_more field count more rest (is_behind at word) e inner =
    let begins = inner (h.Open at (h.IdentName word) ∷ h.Close ∷ h.Close ∷ rest) e in
    let key : List Item = node at (h.IdentName word) [] in
    record {
      front = node field h.MemberExpr (begins.front ++ key);
      is = ap (λ items. h.Open field h.MemberExpr ∷ items) (begins.is ∙ sym (append_assoc begins.front key (h.Close ∷ rest)) ∙ sym (append_assoc (begins.front ++ key) (h.Close ∷ []) rest));
      it_is_whole = node_whole field h.MemberExpr (both_whole begins.it_is_whole (node_whole at (h.IdentName word) none_whole));
    }

reads_begin : (count : ℕ) (items rest : List Item) → behind_reads count items ≡ Some rest → BeginsWhole items rest
reads_begin zero (h.Ident field x ctxt r.Reference ∷ more) rest e = record {
  front = h.Ident field x ctxt r.Reference ∷ [];
  is = ap (λ items. h.Ident field x ctxt r.Reference ∷ items) (same_Some more rest e);
  it_is_whole = name_whole field x ctxt r.Reference;
}
reads_begin (suc count) (h.Open field h.MemberExpr ∷ more) rest e = read_more field count more rest (word_found (behind_reads count more) rest e) refl (λ left is. reads_begin count more left is)
reads_begin _ _ rest e = absurd (none-some rest e)

found_end : (found : Option (List Item)) → is_end found ≡ true → found ≡ Some []
found_end (Some []) e = refl
found_end _ e = absurd (false≢true e)

last_read : (count : ℕ) (inside : List Item) {found : Option (List Item)} → IsBehindWord found [] → behind_reads count (inside ++ h.Close ∷ []) ≡ found → AreWhole inside
last_read count inside (is_behind at word) e =
    let begins = reads_begin count (inside ++ h.Close ∷ []) (h.Open at (h.IdentName word) ∷ h.Close ∷ h.Close ∷ []) e in
    let key : List Item = node at (h.IdentName word) [] in
    subst AreWhole (sym (append_cancel_right inside (begins.front ++ key) (h.Close ∷ []) (begins.is ∙ sym (append_assoc begins.front key (h.Close ∷ []))))) (both_whole begins.it_is_whole (node_whole at (h.IdentName word) none_whole))

reads_whole : (count : ℕ) (inside : List Item) → are_reads count inside ≡ true → AreWhole inside
reads_whole zero inside e = absurd (false≢true e)
reads_whole (suc count) inside e = last_read count inside (word_found (behind_reads count (inside ++ h.Close ∷ [])) [] (found_end (behind_word (behind_reads count (inside ++ h.Close ∷ []))) e)) refl

call_whole : (inside : List Item) → is_literal_call inside ≡ true → AreWhole inside
call_whole (h.Ident field x ctxt r.Reference ∷ h.Open outer (h.ExprOrSpread false) ∷ h.Open inner (h.Str value raw) ∷ h.Close ∷ h.Close ∷ []) e = both_whole (name_whole field x ctxt r.Reference) (node_whole outer (h.ExprOrSpread false) (node_whole inner (h.Str value raw) none_whole))
call_whole _ e = absurd (false≢true e)

if_some : {A : Type 0} (b : Bool) (x y : A) → (if b then Some x else None) ≡ Some y → b ≡ true
if_some true x y e = refl
if_some false x y e = absurd (none-some y e)

whole_of_reads : (found : Ident) (whole : Whole) (inside : List Item) (name : Ident) → name_of_reads found whole inside ≡ Some name → AreWhole inside
whole_of_reads found (w.Reads count) inside name e = reads_whole count inside (if_some (are_reads count inside) found name e)
whole_of_reads found _ inside name e = absurd (none-some name e)

pub member_whole : (step : Option Step) (inside : List Item) (name : Ident) → name_for_member step inside ≡ Some name → AreWhole inside
member_whole (Some step) inside name e = whole_of_reads step.ident step.whole inside name e
member_whole None inside name e = absurd (none-some name e)

whole_of_call : (found : Ident) (whole : Whole) (inside : List Item) (name : Ident) → name_of_call found whole inside ≡ Some name → AreWhole inside
whole_of_call found w.Call inside name e = call_whole inside (if_some (is_literal_call inside) found name e)
whole_of_call found _ inside name e = absurd (none-some name e)

pub literal_call_whole : (step : Option Step) (inside : List Item) (name : Ident) → name_for_call step inside ≡ Some name → AreWhole inside
literal_call_whole (Some step) inside name e = whole_of_call step.ident step.whole inside name e
literal_call_whole None inside name e = absurd (none-some name e)

pub binding_whole : (x : List ℕ) (ctxt : ℕ) (role : Role) → AreWhole (binding None 0 x ctxt role)
binding_whole x ctxt role = node_whole 0 h.BindingIdent (name_whole 0 x ctxt role)

-- what is replaced is whole
pub before_whole : {around : Around} {work rest : Work} {before made : List Item} → Becomes around work before made rest → AreWhole before
before_whole Nothing = none_whole
before_whole (Joined one two) = both_whole (before_whole one) (before_whole two)
before_whole (Hole field) = hole_whole field
before_whole (Word field x ctxt role plain) = name_whole field x ctxt role
before_whole (Name around field x ctxt role occurs) = name_whole field x ctxt role
before_whole (Inside field head is_same one) = node_whole field head (before_whole one)
before_whole (Declaration field kind notes one) = node_whole field (h.VarDecl kind notes) (before_whole one)
before_whole (Kept field head first keeps one two) = node_whole field head (both_whole (node_whole first h.MemberExpr (before_whole one)) (before_whole two))
before_whole (Shorthand field x ctxt role occurs one) = node_whole field h.AssignPatProp (both_whole (binding_whole x ctxt role) (before_whole one))
before_whole (OfReads {work = work} field name inside found) = node_whole field h.MemberExpr (member_whole (upcoming work) inside name found)
before_whole (OfCall {work = work} field name inside found) = node_whole field h.CallExpr (literal_call_whole (upcoming work) inside name found)
before_whole (OfMeta field kind name found) = node_whole field (h.MetaPropExpr kind) none_whole
