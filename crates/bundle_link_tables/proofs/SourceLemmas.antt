-- What is asked for and is not external.
-- What is asked for by declarations and by literal calls is all that a module requests.
use Rattle.std.proofs.Common.{◌≡◌, ◌<◌, Bool, true, false, List, [], ◌∷◌, ◌++◌, length, ◌==◌, eqb-true, refl, ap, ◌∙◌, map, arith, ℕ, sym}
use Rattle.std.specs.Prelude.{filter, not, if◌then◌else◌}
use Rattle.bundle_syntax.specs.Item.{Item}
use Rattle.bundle_rules.specs.Nodes.{Text, each_once, has_text}
use Rattle.bundle_rules.specs.Entries as e
use Rattle.bundle_rules.specs.Entries.{Settings, declared_requests, linked_calls, requests_of}
use Rattle.bundle_link_tables.specs.Sources.{source_asked, told_external, unexternal, unexternal_one}
use Rattle.bundle_link_tables.specs.declared.table.RequireCall.{RequireCall}
use Rattle.bundle_link_tables.specs.declared.table.Source.{Source}
use Rattle.bundle_link_tables.specs.TablesOf.{call_entry_of}

-- ---- source
pub asked_here : (source : Source) → source.is_external ≡ false → unexternal_one source ≡ source.specifier.now ∷ []
asked_here source is = ap (λ b. if b then [] else source.specifier.now ∷ []) is

pub asked_outside : (source : Source) → source.is_external ≡ true → unexternal_one source ≡ []
asked_outside source is = ap (λ b. if b then [] else source.specifier.now ∷ []) is

-- what is left out of the sources is left out of the texts
pub unexternal_filter : (external : List Text) (sources : List Source) (texts : List Text) → map source_asked sources ≡ map (told_external external) texts → unexternal sources ≡ filter (λ s. not (has_text s external)) texts
unexternal_filter external [] [] are = refl
unexternal_filter external [] (x ∷ texts) are = cc
unexternal_filter external (source ∷ sources) [] are = cc
unexternal_filter external (source ∷ sources) (x ∷ texts) are =
    let first : source_asked source ≡ told_external external x = cc in
    let others : map source_asked sources ≡ map (told_external external) texts = cc in
    ap (λ l. unexternal_one source ++ l) (unexternal_filter external sources texts others)
    ∙ ap (λ told. (if told.1 then [] else told.0 ∷ []) ++ filter (λ s. not (has_text s external)) texts) first
    ∙ step (has_text x external)
  where
    step : (b : Bool) → (if b then [] else x ∷ []) ++ filter (λ s. not (has_text s external)) texts ≡ (if not b then x ∷ filter (λ s. not (has_text s external)) texts else filter (λ s. not (has_text s external)) texts)
    step true = refl
    step false = refl

-- what one source asks for, or none, stands once, where nothing is called
pub few_once : (sources : List Source) (calls : List RequireCall) → length sources < 2 → (length calls == 0) ≡ true → unexternal sources ≡ each_once (unexternal sources ++ map (λ call. call.specifier.now) calls)
few_once [] [] few none = refl
few_once (source ∷ []) [] few none = of_one source.specifier.now source.is_external
  where
    of_one : (x : Text) (b : Bool) → (if b then [] else x ∷ []) ++ [] ≡ each_once (((if b then [] else x ∷ []) ++ []) ++ [])
    of_one x true = refl
    of_one x false = refl
few_once (source ∷ other ∷ more) [] few none = absurd (omega (arith, few))
few_once sources (call ∷ calls) few none = absurd (omega (arith, eqb-true (length (call ∷ calls)) 0 none))

-- ---- request
specifiers : (calls : List RequireCall) → map (λ call. call.specifier.now) calls ≡ map (λ (call : e.RequireCall). call.specifier) (map call_entry_of calls)
specifiers [] = refl
specifiers (call ∷ calls) = ap (λ l. call.specifier.now ∷ l) (specifiers calls)

pub requested : (settings : Settings) (is_free : ℕ → Bool) (tree : List Item) (sources : List Source) (calls : List RequireCall) → map source_asked sources ≡ map (told_external settings.external) (declared_requests tree) → map call_entry_of calls ≡ linked_calls settings is_free tree → each_once (unexternal sources ++ map (λ call. call.specifier.now) calls) ≡ requests_of settings is_free tree
requested settings is_free tree sources calls told linked =
    ap (λ l. each_once (l ++ map (λ call. call.specifier.now) calls)) (unexternal_filter settings.external sources (declared_requests tree) told)
    ∙ ap (λ l. each_once (filter (λ s. not (has_text s settings.external)) (declared_requests tree) ++ l)) (specifiers calls ∙ ap (map (λ (call : e.RequireCall). call.specifier)) linked)
