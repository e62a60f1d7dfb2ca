-- What is known of an output and of a store, where nothing is written or all of a delivery is.
use Rattle.std.proofs.Common.{◌≡◌, refl, sym, subst, ap, ◌∙◌, ◌++◌, ◌<◌, ◌+◌, ℕ, List, [], Option, Some, None, map, length, take, get_or, append-nil, String, string_bytes}
use Rattle.std.proofs.lemmas.List.{take_more, map-append}
use Rattle.std.proofs.lemmas.Grind.{flat_map-append}
use Rattle.std.specs.declared.alloc.Global.{Global}
use Rattle.std.specs.Io.KnownBytes.{Keeps, Appends}
use Rattle.std.proofs.KnownBytes.{Appends-nil, Appends-trans, Appends-kept}
use Rattle.gutsirava_words.specs.declared.options.Destination.{Destination}
use Rattle.gutsirava_words.specs.declared.options.Destination.TheVariants.{Stdout, File, Folder}
use Rattle.gutsirava_run.specs.Delivery.{Delivery, Delivers, KeepsAll, stored_file}
use Rattle.gutsirava_run.specs.Ending.{Known, known, Prints, Stores, IsDelivered, IsUnwritten, texts_of}
use Rattle.gutsirava_run.specs.declared.store.OutputFile.{OutputFile}

pub keeps_same : (bytes : Option (List ℕ)) → Keeps bytes bytes
keeps_same None = tt
keeps_same (Some bytes) = refl

pub keeps_all_same : (stored : Option (List Delivery)) → KeepsAll stored stored
keeps_all_same None = tt
keeps_all_same (Some deliveries) = refl

pub unwritten_kept : (printed : Option (List ℕ)) (old new : Option (List Delivery))
    → KeepsAll old new → IsUnwritten (known printed old) (known printed new)
unwritten_kept printed old new kept = record { printed = keeps_same printed; stored = kept }

pub unwritten_same : (printed : Option (List ℕ)) (stored : Option (List Delivery))
    → IsUnwritten (known printed stored) (known printed stored)
unwritten_same printed stored = unwritten_kept printed stored stored (keeps_all_same stored)

pub prints_of : (text : List ℕ) (old new : Option (List ℕ)) (stored : Option (List Delivery))
    → Appends old new text → Prints text (known old stored) (known new stored)
prints_of text old new stored grown = record { printed = grown; stored = keeps_all_same stored }

pub stores_of : (delivery : Delivery) (printed : Option (List ℕ)) (old new : Option (List Delivery))
    → Delivers old new delivery → Stores delivery (known printed old) (known printed new)
stores_of delivery printed old new grown = record { printed = keeps_same printed; stored = grown }

pub delivered_out : (output : Destination) (delivery : Delivery) (before after : Known)
    → output ≡ Stdout → Prints (texts_of delivery.files) before after → IsDelivered output delivery before after
delivered_out output delivery before after is printed =
    let P : Destination → Type 0 = λ it. IsDelivered it delivery before after in subst P (sym is) printed

pub delivered_file : (output : Destination) (path : String Global) (delivery : Delivery) (before after : Known)
    → output ≡ File path → Stores delivery before after → IsDelivered output delivery before after
delivered_file output path delivery before after is stored =
    let P : Destination → Type 0 = λ it. IsDelivered it delivery before after in subst P (sym is) stored

pub delivered_folder : (output : Destination) (path : String Global) (delivery : Delivery) (before after : Known)
    → output ≡ Folder path → Stores delivery before after → IsDelivered output delivery before after
delivered_folder output path delivery before after is stored =
    let P : Destination → Type 0 = λ it. IsDelivered it delivery before after in subst P (sym is) stored

-- one file more is printed
pub printed_more : (old mid new : Option (List ℕ)) (files : List OutputFile) (i : ℕ) (d : OutputFile) → i < length files
    → Appends old mid (texts_of (map stored_file (take i files))) → Appends mid new (string_bytes (get_or files i d).text)
    → Appends old new (texts_of (map stored_file (take (i + 1) files)))
printed_more old mid new files i d below before then_printed =
    let texts : List OutputFile → List ℕ = λ xs. texts_of (map stored_file xs) in
    let whole : texts (take (i + 1) files) ≡ texts (take i files) ++ string_bytes (get_or files i d).text =
    ap texts (take_more files i d below) ∙ simp (map-append, flat_map-append, append-nil) in
    let P : List ℕ → Type 0 = λ xs. Appends old new xs in
    subst P (sym whole) (Appends-trans old mid new _ _ before then_printed)

pub appends_nil : (bytes : Option (List ℕ)) → Appends bytes bytes []
appends_nil bytes = Appends-nil bytes

pub appends_kept : (a b c : Option (List ℕ)) (bytes : List ℕ) → Appends a b bytes → Keeps b c → Appends a c bytes
appends_kept a b c bytes grown kept = Appends-kept a b c bytes grown kept
