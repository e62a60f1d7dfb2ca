-- The whole call for the smallest program: from nothing kept, with a loader that may hand in `f(1);` for main.js, the
-- bundle `f(1);` is a right answer, and so it is as one function's call and where bundles are not renamed.
use Rattle.std.proofs.Common.{◌≡◌, ℕ, Bool, zero, suc, ◌<◌, true, false, List, [], ◌∷◌, inl, inr, Option, Some, None, refl, sym, subst, ap, ◌∙◌, arith, lit<, true≢false}
use Rattle.std.specs.Prelude.{◌⊎◌, Contains, cond, slice_get}
use Rattle.bundle_tree_names.specs.FileName.{name_eq}
use Rattle.bundle_rules.specs.Program.{Loaded, tree_of}
use Rattle.bundle_syntax.specs.Item as h
use Rattle.bundle_syntax.specs.Item.{Item, Head}
use Rattle.bundle_rules.specs.Entries.{Settings, ExportEntry, has_import_meta}
use Rattle.bundle_rules.specs.Kept.{Kept, Answers, nothing_kept, number_in, kept_module, kept_file}
use Rattle.bundle_rules.specs.Bundle as b
use Rattle.bundle_rules.specs.Bundle.{Form, Cause, IsDue, is_with}
use Rattle.bundle_rules.specs.Faults.{Fault, Parties, ListedName, IsFaultless, doubled_export, undeclared_export, with_statement, NumbersUsedUp, GetsContexts, by_tree, by_function, by_answer, has_own_name, IsNamedForContexts, gets, own}
use Rattle.bundle_rules.specs.Judging.{Entry, Outcome, GoesOn, Stopped, requests_in, AreDistinct, Grows, same, met, NumbersEach, LoadsAll, Completes, Stops, at_once}
use Rattle.bundle_rules.specs.Judging as j
use Rattle.bundle_rules.specs.Forms.{wrapped}
use Rattle.bundle_rules.specs.Headline.{Bundles, IsContextsFault, IsHeadline}
use Rattle.bundle_rules.proofs.KeptLemmas.{stays}
use Rattle.bundle_rules.proofs.Programs.{main_js, loaded}
use Rattle.bundle_rules.proofs.BundleExamples.{Setup, as_module, as_call, with_contexts, p, no_element, only_main, es, meant_nothing, kept, call, settings, tree, tree_with}
use Rattle.bundle_rules.proofs.WholeExamples.{bundled, entry, is_bundle_of, is_bundle_of_contexts, is_bundle_of_a_call}

abbrev entries : List Entry
entries = entry ∷ []

-- the file has got its number, and nothing is loaded yet
abbrev met_main : Kept
met_main = record { names = main_js ∷ []; trees = []; resolved = [] }

not_there : {A : Type 0} (a : A) → None ≡ Some a → ⊥
not_there a e = cc

distinct : AreDistinct entries
distinct later twice = at twice.i twice.j twice.before twice.later_there
  where
    at : (i k : ℕ) → i < k → slice_get entries k ≡ Some later → ⊥
    at i zero before there = grind arith
    at i (suc k) before there = not_there later there

has_number : NumbersUsedUp nothing_kept → ⊥
has_number used = grind arith

-- the tree has no fault by itself

no_export : (i : ℕ) (e : ExportEntry) → slice_get [] i ≡ Some e → ⊥
no_export i e there = not_there e there

no_listed : (i : ℕ) (e : ListedName) → slice_get [] i ≡ Some e → ⊥
no_listed i e there = not_there e there

abbrev is_with_at : Option Item → Bool
is_with_at (Some (h.Open field head)) = is_with head
is_with_at _ = false

no_with : (place : ℕ) → is_with_at (slice_get tree place) ≡ true → ⊥
no_with zero e = true≢false (sym e)
no_with (suc zero) e = true≢false (sym e)
no_with (suc (suc zero)) e = true≢false (sym e)
no_with (suc (suc (suc zero))) e = true≢false (sym e)
no_with (suc (suc (suc (suc zero)))) e = true≢false (sym e)
no_with (suc (suc (suc (suc (suc zero))))) e = true≢false (sym e)
no_with (suc (suc (suc (suc (suc (suc zero)))))) e = true≢false (sym e)
no_with (suc (suc (suc (suc (suc (suc (suc zero))))))) e = true≢false (sym e)
no_with (suc (suc (suc (suc (suc (suc (suc (suc zero)))))))) e = true≢false (sym e)
no_with (suc (suc (suc (suc (suc (suc (suc (suc (suc zero))))))))) e = true≢false (sym e)
no_with (suc (suc (suc (suc (suc (suc (suc (suc (suc (suc zero)))))))))) e = true≢false (sym e)
no_with (suc (suc (suc (suc (suc (suc (suc (suc (suc (suc (suc n))))))))))) e = true≢false (sym e)

faultless : IsFaultless main_js tree
faultless stage place fault (doubled_export {j = i} first second before there its_there named its) = no_export i second its_there
faultless stage place fault (undeclared_export {j = i} listed there wrong) = no_listed i listed there
faultless stage place fault (with_statement {place = at} there) = no_with at (ap is_with_at there)

-- the loader may hand in main.js
abbrev MayLoad : Parties → Type 0
MayLoad parties = parties.answers.may_load main_js (loaded main_js call)

completes : (how : Setup) (parties : Parties) → MayLoad parties → Completes parties (settings how) entries nothing_kept kept
completes how parties may = record {
  distinct = distinct;
  next = met_main;
  numbered = j.next (j.next refl has_number) j.over;
  loaded = j.goes_on refl (j.loaded (loaded main_js call) refl (lit< tt) may) refl faultless j.over j.over;
}

grows : (how : Setup) (parties : Parties) → MayLoad parties → Grows parties.answers (settings how) (main_js ∷ []) nothing_kept kept
grows how parties may = met main_js refl has_number (inl (0, lit< tt, refl)) (j.Grows.loaded main_js (loaded main_js call) (0, lit< tt, refl) refl (lit< tt) may same)

-- the headline holds
pub headline : (parties : Parties) → MayLoad parties → IsHeadline parties (settings as_module) entries nothing_kept (Bundles (bundled tree ∷ [])) kept
headline parties may = record { right = (completes as_module parties may, (is_bundle_of parties, tt)); grows = grows as_module parties may; stays = stays parties.answers (settings as_module) (main_js ∷ []) nothing_kept kept (grows as_module parties may) }

pub headline_of_a_call : (parties : Parties) → MayLoad parties → IsHeadline parties (settings as_call) entries nothing_kept (Bundles (bundled (wrapped tree) ∷ [])) kept
headline_of_a_call parties may = record { right = (completes as_call parties may, (is_bundle_of_a_call parties, tt)); grows = grows as_call parties may; stays = stays parties.answers (settings as_call) (main_js ∷ []) nothing_kept kept (grows as_call parties may) }

pub headline_of_contexts : (parties : Parties) → MayLoad parties → IsHeadline parties (settings with_contexts) entries nothing_kept (Bundles (bundled (tree_with 1) ∷ [])) kept
headline_of_contexts parties may = record { right = (completes with_contexts parties may, (is_bundle_of_contexts parties, tt)); grows = grows with_contexts parties may; stays = stays parties.answers (settings with_contexts) (main_js ∷ []) nothing_kept kept (grows with_contexts parties may) }

-- no bundles at all are a wrong answer
pub no_bundle_is_wrong : (parties : Parties) → IsHeadline parties (settings as_module) entries nothing_kept (Bundles []) kept → ⊥
no_bundle_is_wrong parties headline = headline.right.1

-- of two entries of one name no want of contexts is told, since that the second is doubled is told first
pub list_comes_first : (parties : Parties) (settings : Settings) (old new : Kept) (fault : Fault) → IsContextsFault parties settings (entry ∷ entry ∷ []) old new fault → ⊥
list_comes_first parties settings old new fault f = f.completes.distinct entry (record { i = 0; j = 1; earlier = entry; before = lit< tt; first_there = refl; later_there = refl; same = inl refl; none_before = none })
  where
    none : (k l : ℕ) (a b : Entry) → k < l → l < 1 → slice_get (entry ∷ entry ∷ []) k ≡ Some a → slice_get (entry ∷ entry ∷ []) l ≡ Some b → (a.name ≡ b.name) ⊎ (a.file ≡ b.file) → ⊥
    none k l a b below one there other either = grind arith

-- no want of contexts is told of `f(1);`: no scope begins in it, and the linker adds no name of its own
pub no_contexts_of_its_own : (how : Setup) (parties : Parties) → GetsContexts (p how) parties.hooks 0 → ⊥
no_contexts_of_its_own how parties (by_tree some) = grind (arith, some)
no_contexts_of_its_own how parties (by_function c) = es how 0 c
no_contexts_of_its_own how parties (by_answer properties has held some) = true≢false (sym has)

pub no_name_of_its_own : (how : Setup) (form : Form) (cause : Cause) → IsDue (p how) form cause → has_own_name cause ≡ false
no_name_of_its_own how form cause (b.own reached other below) = refl
no_name_of_its_own how form cause (b.imports_names used meant) = absurd (meant_nothing how _ meant)
no_name_of_its_own how form cause (b.imports_whole used meant) = absurd (meant_nothing how _ meant)
no_name_of_its_own how form cause (b.imports_nothing used none whole) = refl
no_name_of_its_own how form cause (b.helps {c = c} reached common) = absurd (es how c common)
no_name_of_its_own how form cause (b.defines {c = c} reached common) = absurd (es how c common)
no_name_of_its_own how form cause (b.loads reached other asks) = absurd (es how _ asks.common_js)
no_name_of_its_own how form cause (b.holds_meta {m = m} reached has) = absurd (true≢false (sym (subst (λ n. has_import_meta (tree_of (p how) n) ≡ true) (only_main how m reached) has)))
no_name_of_its_own how form cause (b.holds_namespace meant) = absurd (meant_nothing how _ meant)
no_name_of_its_own how form cause (b.stars star) = refl
no_name_of_its_own how form cause (b.exports is linked) = refl
no_name_of_its_own how form cause (b.returns called) = refl

pub names_nothing : (how : Setup) (parties : Parties) (m : ℕ) → IsNamedForContexts (p how) parties.hooks m → ⊥
names_nothing how parties m (gets reached its) = no_contexts_of_its_own how parties (subst (GetsContexts (p how) parties.hooks) (only_main how m reached) its)
names_nothing how parties m (own cause due its) = true≢false (sym its ∙ no_name_of_its_own how _ cause due)

-- Where `f(1);` alone is kept, nothing more is, whatever the parties answer: it asks for nothing.

the_one : {A : Type 0} (x y : A) → Contains (x ∷ []) y → x ≡ y
the_one x y (zero, b, e) = e
the_one x y (suc i, b, e) = grind arith

abbrev found : Bool → Option Loaded
found b = cond b (Some (loaded main_js call)) None

only_call : (b : Bool) (asking : Loaded) → found b ≡ Some asking → loaded main_js call ≡ asking
only_call true asking e = cc
only_call false asking e = cc

some_none : {A : Type 0} (a : A) → Some a ≡ None → ⊥
some_none a e = cc

pub nothing_more : (how : Setup) (answers : Answers) (old new : Kept) → old ≡ kept → Grows answers (settings how) (main_js ∷ []) old new → new ≡ kept
nothing_more how answers old new is same = is
nothing_more how answers old new is (met file none room (inl there) grows) =
    absurd (some_none 0 (subst (λ f. number_in kept f ≡ None) (sym (the_one main_js file there)) (subst (λ k. number_in k file ≡ None) is none)))
nothing_more how answers old new is (met file none room (inr (asked, e)) grows) = absurd (some_none file (sym (subst (λ k. kept_file k asked ≡ Some file) is e)))
nothing_more how answers old new is (j.Grows.loaded file answer there none room may grows) =
    absurd (some_none (loaded main_js call) (subst (λ f. kept_module kept f ≡ None) (sym (the_one main_js file (subst (λ k. Contains k.names file) is there))) (subst (λ k. kept_module k file ≡ None) is none)))
nothing_more how answers old new is (j.Grows.resolved asked asking file its_tree its requested none may grows) =
    let its_call : loaded main_js call ≡ asking = only_call (name_eq asked.file main_js) asking (subst (λ k. kept_module k asked.file ≡ Some asking) is its_tree) in
    absurd (no_element asked.specifier (subst (λ (l : Loaded). Contains (requests_in (settings how) l.items) asked.specifier) (sym its_call) requested))

-- Where a growth is refused nothing is kept but what was kept on the way. A call for no entry keeps nothing, whatever it
-- says, though a file that was met earlier might be loaded by all that `Grows` says.

no_numbers : (old new : Kept) (outcome : Outcome) → NumbersEach old [] outcome new → new ≡ old
no_numbers old new outcome j.NumbersEach.over = refl
no_numbers old new outcome j.NumbersEach.stopped = refl

no_loading : (parties : Parties) (its : Settings) (old new : Kept) (outcome : Outcome) → LoadsAll parties its [] 0 old outcome new → new ≡ old
no_loading parties its old new outcome j.LoadsAll.over = refl
no_loading parties its old new outcome (j.LoadsAll.not_loaded at refused) = absurd (not_there _ at)
no_loading parties its old new outcome (j.LoadsAll.faulty at loads _ fault) = absurd (not_there _ at)
no_loading parties its old new outcome (j.LoadsAll.not_resolved at loads _ sound asks) = absurd (not_there _ at)
no_loading parties its old new outcome (j.LoadsAll.goes_on at loads _ sound asks more) = absurd (not_there _ at)
no_loading parties its old new outcome j.LoadsAll.stopped = refl
no_loading parties its old new outcome (j.LoadsAll.stopped_loaded at loads) = absurd (not_there _ at)
no_loading parties its old new outcome (j.LoadsAll.stopped_asking at loads _ sound asks) = absurd (not_there _ at)

stops_with_nothing : (parties : Parties) (its : Settings) (old new : Kept) → Stops parties its [] old new → new ≡ old
stops_with_nothing parties its old new at_once = refl
stops_with_nothing parties its old new (j.Stops.by_number apart numbers) = no_numbers old new Stopped numbers
stops_with_nothing parties its old new (j.Stops.by_loading {next = next} apart numbers loads) = no_loading parties its next new Stopped loads ∙ no_numbers old next GoesOn numbers

grows_alone : (how : Setup) (parties : Parties) → MayLoad parties → Grows parties.answers (settings how) [] met_main kept
grows_alone how parties may = j.Grows.loaded main_js (loaded main_js call) (0, lit< tt, refl) refl (lit< tt) may same
