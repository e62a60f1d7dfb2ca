-- A value whose numbers are whole, read as data.
use Rattle.std.proofs.Common.{◌≡◌, ℕ, List, Bool, true, false, ◌&&◌, Option, Some, None, option_map, refl, sym, ap, true≢false}
use Rattle.json.specs.Json as json
use Rattle.serde_json.specs.Data.{Num, array, object, Members, no_members, put}
use Rattle.serde_json.specs.Read.{of_json, of_items, of_members, number_of}
use Rattle.bundle_json_form.specs.Plain.{plain, plain_items, plain_members}
use Rattle.bundle_json_document.specs.Numbers.{is_whole, is_whole_number, items_are_whole, members_are_whole}

first_of : (a b : Bool) → (a && b) ≡ true → a ≡ true
first_of true b e = refl
first_of false b e = absurd (true≢false (sym e))

second_of : (a b : Bool) → (a && b) ≡ true → b ≡ true
second_of true b e = e
second_of false b e = absurd (true≢false (sym e))

number_read : (s : List ℕ) (o : Option Num) → number_of s ≡ o → is_whole_number o ≡ true
    → of_json (json.number s) ≡ Some (plain (json.number s))
number_read s None is e = absurd (true≢false (sym e))
number_read s (Some n) is e = rw is refl

mutual
  pub whole_read : (j : json.Json) → is_whole j ≡ true → of_json j ≡ Some (plain j)
  whole_read json.null e = refl
  whole_read (json.boolean b) e = refl
  whole_read (json.number s) e = number_read s (number_of s) refl e
  whole_read (json.string s) e = refl
  whole_read (json.array js) e = ap (λ o. option_map array o) (items_read js e)
  whole_read (json.object ms) e = ap (λ o. option_map object o) (members_read ms no_members e)

  items_read : (js : json.Items) → items_are_whole js ≡ true → of_items js ≡ Some (plain_items js)
  items_read json.no_items e = refl
  items_read (json.item j js) e =
      let one = whole_read j (first_of (is_whole j) (items_are_whole js) e) in
      let more = items_read js (second_of (is_whole j) (items_are_whole js) e) in
      rw (one, more) refl

  members_read : (ms : json.Members) (found : Members) → members_are_whole ms ≡ true
      → of_members ms found ≡ Some (plain_members ms found)
  members_read json.no_members found e = refl
  members_read (json.member k j ms) found e =
      let one = whole_read j (first_of (is_whole j) (members_are_whole ms) e) in
      rw one (members_read ms (put k (plain j) found) (second_of (is_whole j) (members_are_whole ms) e))
