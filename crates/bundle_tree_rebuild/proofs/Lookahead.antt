-- What comes next behind the beginning of a node tells what is in it.
use Rattle.std.proofs.Common.{◌≡◌, ◌∙◌, ℕ, zero, suc, Bool, false, ◌&&◌, List, [], ◌∷◌, ◌++◌, append_assoc, Option, Some, None, is_some, slice_get, refl, sym, ap}
use Rattle.bundle_syntax.specs.declared.piece.Role.TheVariants as r
use Rattle.bundle_syntax.specs.Item as h
use Rattle.bundle_syntax.specs.Item.{Item, Head}
use Rattle.bundle_rules.specs.Idents.{Ident}
use Rattle.bundle_tree_places.specs.Edits.{Around}
use Rattle.bundle_tree_rebuild.specs.declared.rewrite.Whole.{Whole}
use Rattle.bundle_tree_rebuild.specs.declared.rewrite.Whole.TheVariants as w
use Rattle.bundle_tree_rebuild.specs.Work.{Step}
use Rattle.bundle_tree_rebuild.specs.Becomes.{behind_reads, behind_word, is_end, are_reads, is_one_string, is_literal_call, name_of_reads, name_for_member, name_of_call, name_for_call}
use Rattle.bundle_tree_rebuild.specs.Fits.{Fits, Nothing, Hole, Name, Node, Shorthand}
use Rattle.bundle_tree_rebuild.specs.Walked.{is_argument, is_string, is_string_ahead, is_end_ahead, is_call_ahead, are_reads_ahead, name_of_reads_ahead, name_for_member_ahead, name_of_call_ahead, name_for_call_ahead}

-- Static reads.

-- whether a node is a member expression
pub data MemberView : Head → Type 0 where
  a_member : MemberView h.MemberExpr
  no_member : {head : Head} → ((field count : ℕ) (rest : List Item) → behind_reads (suc count) (h.Open field head ∷ rest) ≡ None) → MemberView head

pub member_view : (head : Head) → MemberView head
member_view h.MemberExpr = a_member
member_view _ = no_member (λ field count rest. refl)

-- whether a node is a plain word
pub data WordView : Head → Type 0 where
  a_word : (x : List ℕ) → WordView (h.IdentName x)
  no_word : {head : Head} → ((field : ℕ) (rest : List Item) → behind_word (Some (h.Open field head ∷ rest)) ≡ None) → WordView head

pub word_view : (head : Head) → WordView head
word_view (h.IdentName x) = a_word x
word_view _ = no_word (λ field rest. refl)

-- whether these are just a plain word
pub data Word (items : List Item) : Type 0 where
  is : (field : ℕ) (x : List ℕ) → items ≡ h.Open field (h.IdentName x) ∷ h.Close ∷ [] → Word items
  not : ((rest : List Item) → behind_word (Some (items ++ h.Close ∷ rest)) ≡ None) → Word items

word_in : {around beside : Around} {inside rest : List Item} (field : ℕ) (x : List ℕ) → Fits around inside → Fits beside rest → Word (h.Open field (h.IdentName x) ∷ (inside ++ h.Close ∷ rest))
word_in field x Nothing Nothing = is field x refl
word_in field x Nothing (Hole at more) = not (λ rest. refl)
word_in field x Nothing (Name at y ctxt role more) = not (λ rest. refl)
word_in field x Nothing (Node at head fit inner more) = not (λ rest. refl)
word_in field x Nothing (Shorthand at y ctxt role occurs inner more) = not (λ rest. refl)
word_in field x (Hole at more) them = not (λ rest. refl)
word_in field x (Name at y ctxt role more) them = not (λ rest. refl)
word_in field x (Node at head fit inner more) them = not (λ rest. refl)
word_in field x (Shorthand at y ctxt role occurs inner more) them = not (λ rest. refl)

word_viewed : {around beside : Around} {head : Head} {inside rest : List Item} (field : ℕ) → WordView head → Fits around inside → Fits beside rest → Word (h.Open field head ∷ (inside ++ h.Close ∷ rest))
word_viewed field (a_word x) inner more = word_in field x inner more
word_viewed {inside = inside} {rest = others} field (no_word none) inner more = not (λ rest. none field ((inside ++ h.Close ∷ others) ++ h.Close ∷ rest))

word : {around : Around} {items : List Item} → Fits around items → Word items
word Nothing = not (λ rest. refl)
word (Hole field more) = not (λ rest. refl)
word (Name field x ctxt role more) = not (λ rest. refl)
word (Shorthand field x ctxt role occurs inner more) = not (λ rest. refl)
word (Node field head fit inner more) = word_viewed field (word_view head) inner more

-- what stands behind so many reads, if these begin with them
pub data Reads (count : ℕ) (items : List Item) : Type 0 where
  misses : ((rest : List Item) → behind_reads count (items ++ h.Close ∷ rest) ≡ None) → Reads count items
  finds : {around : Around} {others : List Item} → Fits around others → ((rest : List Item) → behind_reads count (items ++ h.Close ∷ rest) ≡ Some (others ++ h.Close ∷ rest)) → Reads count items

-- what is in a member expression and what stands behind it, with what comes behind that
apart : (inside others rest : List Item) → (inside ++ h.Close ∷ others) ++ h.Close ∷ rest ≡ inside ++ h.Close ∷ (others ++ h.Close ∷ rest)
apart inside others rest = append_assoc inside (h.Close ∷ others) (h.Close ∷ rest)

read_on : {beside : Around} (count : ℕ) (inside : List Item) {others behind : List Item} (field : ℕ) → Word behind → ((rest : List Item) → behind_reads count (inside ++ h.Close ∷ rest) ≡ Some (behind ++ h.Close ∷ rest)) → Fits beside others → Reads (suc count) (h.Open field h.MemberExpr ∷ (inside ++ h.Close ∷ others))
read_on count inside {others = others} field (is at x same) found more =
    finds more (λ rest. ap (λ list. behind_word (behind_reads count list)) (apart inside others rest)
    ∙ (ap behind_word (found (others ++ h.Close ∷ rest))
    ∙ ap (λ list. behind_word (Some (list ++ h.Close ∷ (others ++ h.Close ∷ rest)))) same))
read_on count inside {others = others} field (not none) found more =
    misses (λ rest. ap (λ list. behind_word (behind_reads count list)) (apart inside others rest)
    ∙ (ap behind_word (found (others ++ h.Close ∷ rest)) ∙ none (others ++ h.Close ∷ rest)))

read_in : {beside : Around} {count : ℕ} {inside others : List Item} (field : ℕ) → Reads count inside → Fits beside others → Reads (suc count) (h.Open field h.MemberExpr ∷ (inside ++ h.Close ∷ others))
read_in {count = count} {inside = inside} {others = others} field (misses none) more =
    misses (λ rest. ap (λ list. behind_word (behind_reads count list)) (apart inside others rest) ∙ ap behind_word (none (others ++ h.Close ∷ rest)))
read_in {count = count} {inside = inside} field (finds them found) more = read_on count inside field (word them) found more

read_viewed : {beside : Around} {count : ℕ} {head : Head} {inside others : List Item} (field : ℕ) → MemberView head → Reads count inside → Fits beside others → Reads (suc count) (h.Open field head ∷ (inside ++ h.Close ∷ others))
read_viewed field a_member read more = read_in field read more
read_viewed {count = count} {inside = inside} {others = others} field (no_member none) read more =
    misses (λ rest. none field count ((inside ++ h.Close ∷ others) ++ h.Close ∷ rest))

reads : {around : Around} {items : List Item} → Fits around items → (count : ℕ) → Reads count items
reads Nothing zero = misses (λ rest. refl)
reads Nothing (suc count) = misses (λ rest. refl)
reads (Hole field more) zero = misses (λ rest. refl)
reads (Hole field more) (suc count) = misses (λ rest. refl)
reads (Name field x ctxt r.Reference more) zero = finds more (λ rest. refl)
reads (Name field x ctxt r.Binding more) zero = misses (λ rest. refl)
reads (Name field x ctxt r.Word more) zero = misses (λ rest. refl)
reads (Name field x ctxt role more) (suc count) = misses (λ rest. refl)
reads (Shorthand field x ctxt role occurs inner more) zero = misses (λ rest. refl)
reads (Shorthand field x ctxt role occurs inner more) (suc count) = misses (λ rest. refl)
reads (Node field head fit inner more) zero = misses (λ rest. refl)
reads (Node field head fit inner more) (suc count) = read_viewed field (member_view head) (reads inner count) more

-- what comes behind a word is the end of the member expression, or nothing that counts
last_read : (count : ℕ) (inside : List Item) {behind : List Item} → Word behind → ((rest : List Item) → behind_reads count (inside ++ h.Close ∷ rest) ≡ Some (behind ++ h.Close ∷ rest)) → (rest : List Item) → is_some (behind_word (behind_reads count (inside ++ h.Close ∷ rest))) ≡ is_end (behind_word (behind_reads count (inside ++ h.Close ∷ [])))
last_read count inside (is at x same) found rest =
    ap (λ it. is_some (behind_word it)) (found rest) ∙ (ap (λ list. is_some (behind_word (Some (list ++ h.Close ∷ rest)))) same
    ∙ sym (ap (λ it. is_end (behind_word it)) (found []) ∙ ap (λ list. is_end (behind_word (Some (list ++ h.Close ∷ [])))) same))
last_read count inside (not none) found rest =
    ap (λ it. is_some (behind_word it)) (found rest) ∙ (ap is_some (none rest)
    ∙ sym (ap (λ it. is_end (behind_word it)) (found []) ∙ ap is_end (none [])))

reads_end : {count : ℕ} {inside : List Item} → Reads count inside → (rest : List Item) → is_some (behind_word (behind_reads count (inside ++ h.Close ∷ rest))) ≡ is_end (behind_word (behind_reads count (inside ++ h.Close ∷ [])))
reads_end {count} {inside} (misses none) rest = ap (λ it. is_some (behind_word it)) (none rest) ∙ sym (ap (λ it. is_end (behind_word it)) (none []))
reads_end {count} {inside} (finds them found) rest = last_read count inside (word them) found rest

reads_so : {around : Around} {inside : List Item} → Fits around inside → (count : ℕ) (rest : List Item) → are_reads_ahead count (inside ++ h.Close ∷ rest) ≡ are_reads count inside
reads_so them zero rest = refl
reads_so them (suc count) rest = reads_end (reads them count) rest

name_of_reads_so : {around : Around} {inside : List Item} → Fits around inside → (name : Ident) (whole : Whole) (rest : List Item) → name_of_reads_ahead name whole (inside ++ h.Close ∷ rest) ≡ name_of_reads name whole inside
name_of_reads_so them name w.Alone rest = refl
name_of_reads_so them name w.Call rest = refl
name_of_reads_so {inside = inside} them name (w.Reads count) rest = rw (reads_so them count rest) refl

-- the name that stands for a member expression, by what comes next
pub member_so : {around : Around} {inside : List Item} → Fits around inside → (step : Option Step) (rest : List Item) → name_for_member_ahead step (inside ++ h.Close ∷ rest) ≡ name_for_member step inside
member_so them None rest = refl
member_so them (Some step) rest = name_of_reads_so them step.ident step.whole rest

-- Literal calls.

-- whether a node is an argument that is not spread
data ArgumentView : Head → Type 0 where
  an_argument : ArgumentView (h.ExprOrSpread false)
  no_argument : {head : Head} → ((field : ℕ) → is_argument (Some (h.Open field head)) ≡ false) → ((field : ℕ) (rest : List Item) → is_one_string (h.Open field head ∷ rest) ≡ false) → ArgumentView head

argument_view : (head : Head) → ArgumentView head
argument_view (h.ExprOrSpread false) = an_argument
argument_view _ = no_argument (λ field. refl) (λ field rest. refl)

-- whether a node is a string
data StringView : Head → Type 0 where
  a_string : (value : List ℕ) (raw : Option (List ℕ)) → StringView (h.Str value raw)
  no_string : {head : Head} → ((field : ℕ) → is_string (Some (h.Open field head)) ≡ false) → ((outer field : ℕ) (rest : List Item) → is_one_string (h.Open outer (h.ExprOrSpread false) ∷ h.Open field head ∷ rest) ≡ false) → StringView head

string_view : (head : Head) → StringView head
string_view (h.Str value raw) = a_string value raw
string_view _ = no_string (λ field. refl) (λ outer field rest. refl)

-- whether these are one string as an argument, and a node ends behind it
abbrev is_string_here : List Item → Bool
is_string_here list = is_string_ahead (h.Close ∷ list) && is_end_ahead (h.Close ∷ list)

-- a string whose node holds something, or behind which something stands
string_so : {inner_around beside outer_beside : Around} {inside others more : List Item} (outer field : ℕ) (value : List ℕ) (raw : Option (List ℕ)) → Fits inner_around inside → Fits beside others → Fits outer_beside more → (rest : List Item) → is_string_here (h.Open outer (h.ExprOrSpread false) ∷ (((h.Open field (h.Str value raw) ∷ (inside ++ h.Close ∷ others)) ++ h.Close ∷ more) ++ h.Close ∷ rest)) ≡ is_one_string (h.Open outer (h.ExprOrSpread false) ∷ ((h.Open field (h.Str value raw) ∷ (inside ++ h.Close ∷ others)) ++ h.Close ∷ more))
string_so outer field value raw Nothing Nothing Nothing rest = refl
string_so outer field value raw Nothing Nothing (Hole at them) rest = refl
string_so outer field value raw Nothing Nothing (Name at x ctxt role them) rest = refl
string_so outer field value raw Nothing Nothing (Node at head fit in_it them) rest = refl
string_so outer field value raw Nothing Nothing (Shorthand at x ctxt role occurs in_it them) rest = refl
string_so outer field value raw Nothing (Hole at them) more rest = refl
string_so outer field value raw Nothing (Name at x ctxt role them) more rest = refl
string_so outer field value raw Nothing (Node at head fit in_it them) more rest = refl
string_so outer field value raw Nothing (Shorthand at x ctxt role occurs in_it them) more rest = refl
string_so outer field value raw (Hole at them) others more rest = refl
string_so outer field value raw (Name at x ctxt role them) others more rest = refl
string_so outer field value raw (Node at head fit in_it them) others more rest = refl
string_so outer field value raw (Shorthand at x ctxt role occurs in_it them) others more rest = refl

string_viewed : {inner_around beside outer_beside : Around} {head : Head} {inside others more : List Item} (outer field : ℕ) → StringView head → Fits inner_around inside → Fits beside others → Fits outer_beside more → (rest : List Item) → is_string_here (h.Open outer (h.ExprOrSpread false) ∷ (((h.Open field head ∷ (inside ++ h.Close ∷ others)) ++ h.Close ∷ more) ++ h.Close ∷ rest)) ≡ is_one_string (h.Open outer (h.ExprOrSpread false) ∷ ((h.Open field head ∷ (inside ++ h.Close ∷ others)) ++ h.Close ∷ more))
string_viewed outer field (a_string value raw) inner them more rest = string_so outer field value raw inner them more rest
string_viewed {inside = inside} {others = others} {more = behind} outer field (no_string {head = head} unlike none) inner them more rest =
    let tail : List Item = ((inside ++ h.Close ∷ others) ++ h.Close ∷ behind) ++ h.Close ∷ rest in
    ap (λ b. b && is_end_ahead (h.Close ∷ h.Open outer (h.ExprOrSpread false) ∷ h.Open field head ∷ tail)) (unlike field)
    ∙ sym (none outer field ((inside ++ h.Close ∷ others) ++ h.Close ∷ behind))

argument_so : {inner_around beside : Around} {inside others : List Item} (field : ℕ) → Fits inner_around inside → Fits beside others → (rest : List Item) → is_string_here (h.Open field (h.ExprOrSpread false) ∷ ((inside ++ h.Close ∷ others) ++ h.Close ∷ rest)) ≡ is_one_string (h.Open field (h.ExprOrSpread false) ∷ (inside ++ h.Close ∷ others))
argument_so field Nothing them rest = refl
argument_so field (Hole at more) them rest = refl
argument_so field (Name at x ctxt role more) them rest = refl
argument_so field (Shorthand at x ctxt role occurs inner more) them rest = refl
argument_so field (Node at head fit inner more) them rest = string_viewed field at (string_view head) inner more them rest

argument_viewed : {inner_around beside : Around} {head : Head} {inside others : List Item} (field : ℕ) → ArgumentView head → Fits inner_around inside → Fits beside others → (rest : List Item) → is_string_here (h.Open field head ∷ ((inside ++ h.Close ∷ others) ++ h.Close ∷ rest)) ≡ is_one_string (h.Open field head ∷ (inside ++ h.Close ∷ others))
argument_viewed field an_argument inner them rest = argument_so field inner them rest
argument_viewed {inside = inside} {others = others} field (no_argument {head = head} unlike none) inner them rest =
    let tail : List Item = (inside ++ h.Close ∷ others) ++ h.Close ∷ rest in
    ap (λ b. (b && is_string (slice_get tail 0)) && is_end_ahead (h.Close ∷ h.Open field head ∷ tail)) (unlike field)
    ∙ sym (none field (inside ++ h.Close ∷ others))

arguments_so : {around : Around} {arguments : List Item} → Fits around arguments → (rest : List Item) → is_string_here (arguments ++ h.Close ∷ rest) ≡ is_one_string arguments
arguments_so Nothing rest = refl
arguments_so (Hole field more) rest = refl
arguments_so (Name field x ctxt role more) rest = refl
arguments_so (Shorthand field x ctxt role occurs inner more) rest = refl
arguments_so (Node field head fit inner more) rest = argument_viewed field (argument_view head) inner more rest

literal_so : {around : Around} {inside : List Item} → Fits around inside → (rest : List Item) → is_call_ahead (inside ++ h.Close ∷ rest) ≡ is_literal_call inside
literal_so Nothing rest = refl
literal_so (Hole field more) rest = refl
literal_so (Name field x ctxt r.Binding more) rest = refl
literal_so (Name field x ctxt r.Word more) rest = refl
literal_so (Name field x ctxt r.Reference more) rest = arguments_so more rest
literal_so (Node field head fit inner more) rest = refl
literal_so (Shorthand field x ctxt role occurs inner more) rest = refl

name_of_call_so : {around : Around} {inside : List Item} → Fits around inside → (name : Ident) (whole : Whole) (rest : List Item) → name_of_call_ahead name whole (inside ++ h.Close ∷ rest) ≡ name_of_call name whole inside
name_of_call_so them name w.Alone rest = refl
name_of_call_so them name (w.Reads count) rest = refl
name_of_call_so them name w.Call rest = rw (literal_so them rest) refl

-- the name that is called in the place of a call, by what comes next
pub call_so : {around : Around} {inside : List Item} → Fits around inside → (step : Option Step) (rest : List Item) → name_for_call_ahead step (inside ++ h.Close ∷ rest) ≡ name_for_call step inside
call_so them None rest = refl
call_so them (Some step) rest = name_of_call_so them step.ident step.whole rest
