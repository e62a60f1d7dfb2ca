-- The option that is written so.
use Rattle.std.proofs.Common.{◌≡◌, ◌≢◌, ℕ, List, [], ◌∷◌, Option, Some, None, IfSome, IfNone, Bool, true, false, refl, subst, sym}
use Rattle.std.specs.List.{find}
use Rattle.std.specs.Str.{bytes_eq}
use Rattle.std.proofs.lemmas.Bool.Decides.{same_from_decides}
use Rattle.std.proofs.lemmas.Slice.Eq.{bytes_eq-Decides}
use Rattle.gutsirava_words.specs.Key.{all_keys, key_named, key_text}
use Rattle.gutsirava_words.specs.declared.key.Key.{Key}
use Rattle.gutsirava_words.specs.declared.key.Key.TheVariants as keys

-- an option is found by how it is written
named_of : (key : Key) → Some key ≡ key_named (key_text key)
unfolding key_named
named_of keys.Outfile = refl
named_of keys.Outdir = refl
named_of keys.Format = refl
named_of keys.GlobalName = refl
named_of keys.Globals = refl
named_of keys.External = refl
named_of keys.Platform = refl
named_of keys.Conditions = refl
named_of keys.MainFields = refl
named_of keys.Order = refl
named_of keys.Root = refl
named_of keys.Charset = refl
named_of keys.LegalComments = refl
named_of keys.DefineMeta = refl
named_of keys.SourceMap = refl
named_of keys.SourcesContent = refl
named_of keys.Metafile = refl
named_of keys.Analyze = refl
named_of keys.Graph = refl
named_of keys.Watch = refl
named_of keys.LogLevel = refl
named_of keys.Color = refl

-- a name that no option has finds none
none_found : (name : List ℕ) → ((it : Key) → key_text it ≢ name) → (all : List Key)
    → find (λ key. bytes_eq (key_text key) name) all ≡ None
none_found name none_is [] = refl
none_found name none_is (key ∷ more) =
    let differs = same_from_decides (bytes_eq (key_text key) name) false
    (bytes_eq-Decides (key_text key) name) ((λ (h : false ≡ true). cc), λ (e : key_text key ≡ name). absurd (none_is key e)) in
    rw differs (none_found name none_is more)

-- what is found is the option that has the name, or none where none has it
pub named_is : (name : List ℕ) (it : Option Key) → IfSome it (λ key. key_text key ≡ name)
    → IfNone it ((key : Key) → key_text key ≢ name) → it ≡ key_named name
unfolding key_named
named_is name (Some key) same none_is = subst (λ (text : List ℕ). Some key ≡ key_named text) same (named_of key)
named_is name None same none_is = sym (none_found name none_is all_keys)
