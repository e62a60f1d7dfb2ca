-- The table says what the search found.
use Rattle.std.proofs.Common.{◌≡◌, ℕ, ◌+◌, Bool, List, [], ◌∷◌, ◌++◌, Option, Some, None, map, take, ap, ap₂, sym, ◌∙◌, subst, refl}
use Rattle.std.specs.Prelude.{slice_get}
use Rattle.std.specs.List.{AllZip}
use Rattle.std.proofs.lemmas.Option.{same_Some}
use Rattle.std.proofs.lemmas.Slice.Zip.{all_zipped_more}
use Rattle.bundle_syntax.specs.Item.{Item}
use Rattle.bundle_rules.specs.Places as p
use Rattle.bundle_rules.specs.Scopes as s
use Rattle.bundle_rules.specs.Declarations as d
use Rattle.bundle_rules.specs.Homes as o
use Rattle.bundle_rules.specs.Denotes as e
use Rattle.bundle_scope_denote.specs.declared.table.Binding.{Binding}
use Rattle.bundle_scope_denote.specs.declared.table.Denoted.{Denoted}
use Rattle.bundle_scope_denote.specs.declared.table.Denotations.{Denotations}
use Rattle.bundle_scope_denote.specs.declared.walk.NameOccurrence.{NameOccurrence}
use Rattle.bundle_scope_denote.specs.declared.walk.ScopeWalk.{ScopeWalk}
use Rattle.bundle_scope_denote.specs.declared.denote.BindingSearch.{BindingSearch}
use Rattle.bundle_scope_denote.specs.Numbers.{NumberedScope, numbered_scope, AreAround, KeepsNumbers}
use Rattle.bundle_scope_denote.specs.Chains.{numbered_scope_at, top_number, AreInOrder, IsOnce, IsOnlyTopOf}
use Rattle.bundle_scope_denote.specs.Bound.{ScopeKey, SaysDenoted}
use Rattle.bundle_scope_denote.specs.Walked.{IsSeen}
use Rattle.bundle_scope_denote.specs.Steps.{scopes_of, walk_names, IsWholeWalk}
use Rattle.bundle_scope_denote.specs.Ready.{IsBindingOf, Matches, binding_name}
use Rattle.bundle_scope_denote.specs.Searched.{keys_of, IsSearchReady, HaveOwnNumbers, DenotesSeen, IsEntryMade, IsSearchedTo, Searches}
use Rattle.bundle_scope_denote.specs.Listed.{IsBinding, IsDenoted, IsTableEntry, TellsDenoted, IsDenotationTable, copied_from, copy_of}
use Rattle.bundle_scope_denote.proofs.ZipLemmas.{AllZip-at, AllZip-at_second}
use Rattle.bundle_scope_denote.proofs.OutwardLemmas.{same-scope, only-top}
use Rattle.bundle_scope_denote.proofs.SearchLemmas.{says-keeps, own-keeps}
use Rattle.bundle_scope_denote.proofs.LoopLemmas.{take-next}

-- what the keys say of a number the bindings say
binding-said : (scopes : List NumberedScope) (names : List d.Name) (bindings : List Binding) (keys : List ScopeKey) → Matches names bindings keys → (result : Option ℕ) (denoted : e.Denoted) → SaysDenoted scopes names keys result denoted → IsDenoted scopes bindings result denoted
binding-said scopes names bindings keys matches None (e.Global symbol) says = says
binding-said scopes names bindings keys matches None (e.Bound scope name) says = says
binding-said scopes names bindings keys matches (Some number) (e.Global symbol) says = says
binding-said scopes names bindings keys matches (Some number) (e.Bound scope name) says =
    let found = AllZip-at_second (IsBindingOf names) bindings keys number says.0 matches says.1 in
    record { binding = found.0; at = found.1; in_scope = ap (numbered_scope_at scopes) found.2.scope ∙ says.2; named = same_Some (binding_name found.0) name (sym found.2.name ∙ says.3) }

-- no two bindings are one
one-binding : (scopes : List NumberedScope) (names : List d.Name) (bindings : List Binding) (keys : List ScopeKey) → AreInOrder scopes → IsOnce names → IsOnce keys → Matches names bindings keys → (i j : ℕ) (scope : s.Scope) (name : d.Name) → IsBinding scopes bindings i scope name → IsBinding scopes bindings j scope name → i ≡ j
one-binding scopes names bindings keys ordered names_once once matches i j scope name first second =
    let a = AllZip-at (IsBindingOf names) bindings keys i first.binding matches first.at in
    let b = AllZip-at (IsBindingOf names) bindings keys j second.binding matches second.at in
    let same_scope : a.0.0 ≡ b.0.0 = same-scope scopes ordered a.0.0 b.0.0 scope scope (ap (numbered_scope_at scopes) (sym a.2.scope) ∙ first.in_scope) (ap (numbered_scope_at scopes) (sym b.2.scope) ∙ second.in_scope) refl in
    let same_name : a.0.1 ≡ b.0.1 = names_once a.0.1 b.0.1 name (a.2.name ∙ ap (λ x. Some x) first.named) (b.2.name ∙ ap (λ x. Some x) second.named) in
    let same : b.0 ≡ a.0 = ap₂ (λ (x : ℕ) (y : ℕ). let key : ScopeKey = (x, y) in key) (sym same_scope) (sym same_name) in
    once i j a.0 a.1 (b.1 ∙ ap (λ k. Some k) same)

pub made-keeps : (reading : d.Reading) (walk : ScopeWalk) (all : List d.Declared) (old new : List ScopeKey) → KeepsNumbers old new → (entries : List Denoted) (seen : List NameOccurrence) → AllZip (IsEntryMade reading walk all old) entries seen → AllZip (IsEntryMade reading walk all new) entries seen
made-keeps reading walk all old new keeps [] [] made = tt
made-keeps reading walk all old new keeps [] (x ∷ xs) made = absurd made
made-keeps reading walk all old new keeps (t ∷ ts) [] made = absurd made
made-keeps reading walk all old new keeps (t ∷ ts) (x ∷ xs) made = (record { copied = made.0.copied; says = λ kind occurrence known. says-keeps walk old new keeps t.binding (e.denoted_of reading kind all occurrence) (made.0.says kind occurrence known) }, made-keeps reading walk all old new keeps ts xs made.1)

entry : (reading : d.Reading) (kind : s.ModuleKind) (walk : ScopeWalk) (all : List d.Declared) (keys : List ScopeKey) (denoted : Denoted) (seen : NameOccurrence) (occurrence : p.Occurrence) → IsEntryMade reading walk all keys denoted seen → IsSeen (scopes_of walk) (walk_names walk) reading kind all seen occurrence → IsTableEntry (scopes_of walk) reading kind denoted occurrence
entry reading kind walk all keys denoted seen occurrence made known = record {
  place = ap (λ (c : ℕ × ℕ × Bool). c.0) made.copied ∙ known.place;
  around = subst (λ n. AreAround (scopes_of walk) (Some n) (s.scopes_around kind occurrence.path)) (sym (ap (λ (c : ℕ × ℕ × Bool). c.1) made.copied)) known.around;
  declares = ap (λ (c : ℕ × ℕ × Bool). c.2) made.copied ∙ known.declares;
}

entries : (reading : d.Reading) (kind : s.ModuleKind) (walk : ScopeWalk) (all : List d.Declared) (keys : List ScopeKey) (table : List Denoted) (seen : List NameOccurrence) (occurrences : List p.Occurrence) → AllZip (IsEntryMade reading walk all keys) table seen → AllZip (IsSeen (scopes_of walk) (walk_names walk) reading kind all) seen occurrences → AllZip (IsTableEntry (scopes_of walk) reading kind) table occurrences
entries reading kind walk all keys [] [] [] made known = tt
entries reading kind walk all keys [] [] (o ∷ os) made known = known
entries reading kind walk all keys [] (x ∷ xs) os made known = absurd made
entries reading kind walk all keys (t ∷ ts) [] os made known = absurd made
entries reading kind walk all keys (t ∷ ts) (x ∷ xs) [] made known = absurd known
entries reading kind walk all keys (t ∷ ts) (x ∷ xs) (o ∷ os) made known = (entry reading kind walk all keys t x o made.0 known.0, entries reading kind walk all keys ts xs os made.1 known.1)

-- and what each denotes
entries-tell : (reading : d.Reading) (kind : s.ModuleKind) (walk : ScopeWalk) (all : List d.Declared) (keys : List ScopeKey) (bindings : List Binding) → Matches (walk_names walk) bindings keys → (table : List Denoted) (seen : List NameOccurrence) (occurrences : List p.Occurrence) → AllZip (IsEntryMade reading walk all keys) table seen → AllZip (IsSeen (scopes_of walk) (walk_names walk) reading kind all) seen occurrences → AllZip (TellsDenoted (scopes_of walk) bindings) table (map (e.denoted_of reading kind all) occurrences)
entries-tell reading kind walk all keys bindings matches [] [] [] made known = tt
entries-tell reading kind walk all keys bindings matches [] [] (o ∷ os) made known = known
entries-tell reading kind walk all keys bindings matches [] (x ∷ xs) os made known = absurd made
entries-tell reading kind walk all keys bindings matches (t ∷ ts) [] os made known = absurd made
entries-tell reading kind walk all keys bindings matches (t ∷ ts) (x ∷ xs) [] made known = absurd known
entries-tell reading kind walk all keys bindings matches (t ∷ ts) (x ∷ xs) (o ∷ os) made known = (binding-said (scopes_of walk) (walk_names walk) bindings keys matches t.binding (e.denoted_of reading kind all o) (made.0.says kind o known.0), entries-tell reading kind walk all keys bindings matches ts xs os made.1 known.1)

-- at the end the table is whole
pub table-whole : (reading : d.Reading) (kind : s.ModuleKind) (items : List Item) (walk : ScopeWalk) (of : List ℕ) (search : BindingSearch) (table : Denotations) → IsWholeWalk walk reading kind items → IsSearchedTo reading walk of (d.declared reading kind items) search table.occurrences.items walk.occurrences.items → table.scopes.items ≡ walk.scopes.items → table.bindings.items ≡ search.bindings.items.items → IsDenotationTable reading kind items table
table-whole reading kind items walk of search table whole searched same_scopes same_bindings = record {
  occurrences = subst (λ (l : List NumberedScope). AllZip (IsTableEntry l reading kind) table.occurrences.items (p.occurrences items)) scopes_are (entries reading kind walk (d.declared reading kind items) (keys_of search) table.occurrences.items walk.occurrences.items (p.occurrences items) searched.made whole.seen);
  denotes = subst (λ (l : List NumberedScope). AllZip (TellsDenoted l table.bindings.items) table.occurrences.items (e.denotations reading kind items)) scopes_are (entries-tell reading kind walk (d.declared reading kind items) (keys_of search) table.bindings.items matches table.occurrences.items walk.occurrences.items (p.occurrences items) searched.made whole.seen);
  declared = λ i x at. let found = searched.own i x at in (found.0, subst (λ (l : List NumberedScope). IsBinding l table.bindings.items found.0 (o.home_of (d.declared reading kind items) x) x.name) scopes_are (binding-said (scopes_of walk) (walk_names walk) table.bindings.items (keys_of search) matches (Some found.0) (e.Bound (o.home_of (d.declared reading kind items) x) x.name) found.2));
  one = λ i j scope name first second. one-binding (scopes_of walk) (walk_names walk) table.bindings.items (keys_of search) whole.order whole.once searched.ready.once matches i j scope name (subst (λ (l : List NumberedScope). IsBinding l table.bindings.items i scope name) (sym scopes_are) first) (subst (λ (l : List NumberedScope). IsBinding l table.bindings.items j scope name) (sym scopes_are) second);
  top = subst (λ (l : List NumberedScope). IsOnlyTopOf l (top_number kind)) scopes_are (subst (λ n. IsOnlyTopOf (scopes_of walk) n) whole.top (only-top (scopes_of walk) walk.top kind whole.order whole.outermost));
  order = subst (λ (l : List NumberedScope). AreInOrder l) scopes_are whole.order;
}
  where
    scopes_are : scopes_of walk ≡ map numbered_scope table.scopes.items
    scopes_are = ap (map numbered_scope) (sym same_scopes)

    matches : Matches (walk_names walk) table.bindings.items (keys_of search)
    matches = subst (λ (l : List Binding). Matches (walk_names walk) l (keys_of search)) (sym same_bindings) searched.ready.matches

-- one more occurrence was gone over
pub searched-next : (reading : d.Reading) (walk : ScopeWalk) (of : List ℕ) (all : List d.Declared) (old new : BindingSearch) (table new_table : List Denoted) (i : ℕ) (seen : NameOccurrence) (result : Option ℕ) (entry : Denoted) → slice_get walk.occurrences.items i ≡ Some seen → DenotesSeen reading walk of old new seen result → copy_of entry ≡ copied_from seen → entry.binding ≡ result → new_table ≡ table ++ entry ∷ [] → IsSearchedTo reading walk of all old table (take i walk.occurrences.items) → IsSearchedTo reading walk of all new new_table (take (i + 1) walk.occurrences.items)
searched-next reading walk of all old new table new_table i seen result entry at denotes copied is pushed known = record {
  ready = denotes.ready all known.ready;
  own = own-keeps walk all of (keys_of old) (keys_of new) denotes.keeps known.own;
  made = subst (λ l. AllZip (IsEntryMade reading walk all (keys_of new)) l (take (i + 1) walk.occurrences.items)) (sym pushed) (subst (λ l. AllZip (IsEntryMade reading walk all (keys_of new)) (table ++ entry ∷ []) l) (sym (take-next walk.occurrences.items i seen at)) (all_zipped_more (IsEntryMade reading walk all (keys_of new)) table (take i walk.occurrences.items) entry seen (made-keeps reading walk all (keys_of old) (keys_of new) denotes.keeps table (take i walk.occurrences.items) known.made) (record { copied = copied; says = λ kind occurrence is_seen. subst (λ r. SaysDenoted (scopes_of walk) (walk_names walk) (keys_of new) r (e.denoted_of reading kind all occurrence)) (sym is) (denotes.says kind all occurrence known.ready known.own is_seen) })));
}

-- none was gone over
pub searched-first : (reading : d.Reading) (walk : ScopeWalk) (of : List ℕ) (all : List d.Declared) (search : BindingSearch) (table : List Denoted) → IsSearchReady reading walk all search → HaveOwnNumbers walk all of (keys_of search) → table ≡ [] → IsSearchedTo reading walk of all search table []
searched-first reading walk of all search table ready own none = record { ready = ready; own = own; made = subst (λ l. AllZip (IsEntryMade reading walk all (keys_of search)) l []) (sym none) tt }

-- what is true of one more, for each list of declarations
pub searches-next : (reading : d.Reading) (walk : ScopeWalk) (of : List ℕ) (first old new : BindingSearch) (table new_table : List Denoted) (i : ℕ) (seen : NameOccurrence) (result : Option ℕ) (entry : Denoted) → slice_get walk.occurrences.items i ≡ Some seen → DenotesSeen reading walk of old new seen result → copy_of entry ≡ copied_from seen → entry.binding ≡ result → new_table ≡ table ++ entry ∷ [] → Searches reading walk of first old table (take i walk.occurrences.items) → Searches reading walk of first new new_table (take (i + 1) walk.occurrences.items)
searches-next reading walk of first old new table new_table i seen result entry at denotes copied is pushed known all ready own = searched-next reading walk of all old new table new_table i seen result entry at denotes copied is pushed (known all ready own)

pub searches-first : (reading : d.Reading) (walk : ScopeWalk) (of : List ℕ) (search : BindingSearch) (table : List Denoted) → table ≡ [] → Searches reading walk of search search table []
searches-first reading walk of search table none all ready own = searched-first reading walk of all search table ready own none
