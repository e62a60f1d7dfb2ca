-- What is told of a refusal, part by part.
use Rattle.std.proofs.Common.{◌≡◌, ℕ, List, ◌++◌, codes, decimal, refl, sym, ap, ◌∙◌, append_assoc}
use Rattle.std.specs.Fmt.{digits}
use Rattle.json.specs.Print.{escape_byte}
use Rattle.serde_json.specs.Data.{Data, object, member, no_members}
use Rattle.serde_json.specs.Written.{compact_text}
use Rattle.bundle_tree_names.specs.Error.{number_of, variant_name}
use Rattle.bundle_tree_names.specs.declared.error.Error.{Error}
use Rattle.bundle_tree_names.specs.declared.error.Error.TheVariants.{OutOfMemory}
use Rattle.bundle_json_document.specs.Answer.{line_of}
use Rattle.gutsirava_c.specs.Refusal.{file_in, refusal_text, text_or_null, word_in}

object_text : (file name : Data)
    → compact_text (object (member (codes "file") file (member (codes "name") name no_members)))
    ≡ codes "{\"file\":" ++ (compact_text file ++ (codes ",\"name\":" ++ (compact_text name ++ codes "}")))
unfolding escape_byte
object_text file name = refl

-- the line, whose parts are put one behind the other
pub line_put : (refusal : Error) (number : ℕ) (kind line : List ℕ)
    → number ≡ number_of refusal → kind ≡ variant_name refusal
    → line ≡ codes "error " ++ (decimal number ++ (codes ": " ++ (kind ++ codes "\n")))
    → line ≡ line_of refusal
unfolding line_of
line_put refusal number kind line is_number is_kind is =
    is ∙ ap (λ it. codes "error " ++ (decimal it ++ (codes ": " ++ (kind ++ codes "\n")))) is_number
    ∙ ap (λ it. codes "error " ++ (decimal (number_of refusal) ++ (codes ": " ++ (it ++ codes "\n")))) is_kind
    ∙ regroup (codes "error ") (decimal (number_of refusal)) (codes ": ") (variant_name refusal) (codes "\n")
  where
    regroup : (a b c d e : List ℕ) → a ++ (b ++ (c ++ (d ++ e))) ≡ a ++ b ++ c ++ d ++ e
    regroup a b c d e = simp append_assoc

-- the line behind it
pub place_put : (refusal : Error) (line opened file between name whole : List ℕ)
    → line ≡ line_of refusal
    → opened ≡ line ++ codes "{\"file\":"
    → file ≡ opened ++ compact_text (text_or_null (file_in refusal))
    → between ≡ file ++ codes ",\"name\":"
    → name ≡ between ++ compact_text (text_or_null (word_in refusal))
    → whole ≡ name ++ codes "}\n"
    → whole ≡ refusal_text refusal
place_put refusal line opened file between name whole is opens puts parts names closes =
    let all : whole ≡ ((((line_of refusal ++ codes "{\"file\":") ++ compact_text (text_or_null (file_in refusal)))
    ++ codes ",\"name\":") ++ compact_text (text_or_null (word_in refusal))) ++ (codes "}" ++ codes "\n")
    = rw (closes, names, parts, puts, opens, is) refl in
    all
    ∙ regroup (line_of refusal) (codes "{\"file\":") (compact_text (text_or_null (file_in refusal))) (codes ",\"name\":")
    (compact_text (text_or_null (word_in refusal))) (codes "}") (codes "\n")
    ∙ ap (λ it. line_of refusal ++ it ++ codes "\n") (sym (object_text (text_or_null (file_in refusal)) (text_or_null (word_in refusal))))
  where
    regroup : (l a b c d e f : List ℕ) → ((((l ++ a) ++ b) ++ c) ++ d) ++ (e ++ f) ≡ l ++ (a ++ (b ++ (c ++ (d ++ e)))) ++ f
    regroup l a b c d e f = simp append_assoc

pub memory_told : codes "error 22: OutOfMemory\n{\"file\":null,\"name\":null}\n" ≡ refusal_text OutOfMemory
unfolding line_of digits escape_byte
memory_told = refl
