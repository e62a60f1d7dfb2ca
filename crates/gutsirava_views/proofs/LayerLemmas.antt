-- Columns of one block more.
use Rattle.std.proofs.Common.{◌≡◌, ◌+◌, ◌<◌, ◌≤◌, ℕ, List, [], ◌∷◌, ◌++◌, length, get_or, take, All, Vec, sym, ◌∙◌, subst, arith, ⊎_elim}
use Rattle.std.proofs.lemmas.List.Elements.{All-more, All-push}
use Rattle.std.proofs.Math.ListN.{get_or-append}
use Rattle.std.proofs.Math.Seq.{get_or-append_seam}
use Rattle.std.proofs.Math.Nat.{eq-or-lt_of_le}
use Rattle.std.proofs.lemmas.List.{get_or_default, length_push}
use Rattle.std.specs.declared.alloc.Global.{Global}
use Rattle.gutsirava_views.specs.Layers.{AreBehind, StandsBehind}

-- what holds of the columns of blocks holds with one more behind them
stays : (layers : List ℕ) (layer block : ℕ) (askers : Vec ℕ Global) → block < length layers
    → StandsBehind layers block askers → StandsBehind (layers ++ layer ∷ []) block askers
stays layers layer block askers inside behind k d within less =
    let asker : ℕ = get_or askers.items k d in
    let there : asker < length layers = omega (arith, less, inside) in
    rw (get_or-append layers (layer ∷ []) 0 asker there, get_or-append layers (layer ∷ []) 0 block inside)
    (behind k d within less)

-- and the one more stands behind those that ask for it
joins : (layers : List ℕ) (layer : ℕ) (askers : Vec ℕ Global)
    → All (λ asker. asker < length layers → get_or layers asker 0 < layer) askers.items
    → StandsBehind (layers ++ layer ∷ []) (length layers) askers
joins layers layer askers above k d within less =
    rw (get_or-append layers (layer ∷ []) 0 (get_or askers.items k d) less, get_or-append_seam layers layer [] 0)
    (above k d within less)

pub behind_push : (askers : List (Vec ℕ Global)) (layers : List ℕ) (layer : ℕ) (before : Vec ℕ Global)
    → length layers < length askers → before ≡ get_or askers (length layers) before
    → AreBehind askers layers
    → All (λ asker. asker < length layers → get_or layers asker 0 < layer) before.items
    → AreBehind askers (layers ++ layer ∷ [])
behind_push askers layers layer before inside is behind above block d within =
    let last : block ≤ length layers = omega (arith, within, length_push layers layer) in
    let P : Vec ℕ Global → Type 0 = StandsBehind (layers ++ layer ∷ []) (length layers) in
    let at_end : P (get_or askers (length layers) d) =
    subst P (is ∙ get_or_default askers (length layers) before d inside) (joins layers layer before above) in
    let Q : ℕ → Type 0 = λ b. StandsBehind (layers ++ layer ∷ []) b (get_or askers b d) in
    ⊎_elim (λ e. subst Q (sym e) at_end) (λ less. stays layers layer block (get_or askers block d) less (behind block d less))
    (eq-or-lt_of_le last)

-- what stands before a column stands before one further on, and so does one block more
pub before_more : (layers blocks : List ℕ) (i behind further : ℕ) → i < length blocks
    → All (λ block. block < length layers → get_or layers block 0 < behind) (take i blocks)
    → behind ≤ further → (get_or blocks i 0 < length layers → get_or layers (get_or blocks i 0) 0 < further)
    → All (λ block. block < length layers → get_or layers block 0 < further) (take (i + 1) blocks)
before_more layers blocks i behind further inside before on last =
    All-more (λ block. block < length layers → get_or layers block 0 < further) blocks i 0 inside
    (λ k d within there. omega (arith, before k d within there, on)) last

-- with the column of one block more, each block stands behind those that ask for it
pub columns_behind : (askers : List (Vec ℕ Global)) (layers pushed slice asking : List ℕ) (block layer least : ℕ) (before : Vec ℕ Global)
    → length layers ≡ block → block < length askers → before ≡ get_or askers block before
    → slice ≡ layers → asking ≡ before.items → AreBehind askers layers
    → All (λ it. it < length slice → get_or slice it 0 < least) asking → least ≤ layer
    → pushed ≡ layers ++ layer ∷ [] → AreBehind askers pushed
columns_behind askers layers pushed slice asking block layer least before each inside is of_layers of_before behind above on whole =
    let I : ℕ → Type 0 = λ n. n < length askers in
    let B : ℕ → Type 0 = λ n. before ≡ get_or askers n before in
    let A : List ℕ → List ℕ → Type 0 = λ s l. All (λ it. it < length s → get_or s it 0 < least) l in
    let asked : A layers before.items = subst (λ s. A s before.items) of_layers (subst (λ l. A slice l) of_before above) in
    subst (AreBehind askers) (sym whole)
    (behind_push askers layers layer before (subst I (sym each) inside) (subst B (sym each) is) behind
    (λ k d within there. omega (arith, asked k d within there, on)))

-- with the column of one block more, each lies among those that are filled
pub columns_within : (layers pushed : List ℕ) (layer filled grown : ℕ)
    → All (λ it. it < filled) layers → filled ≤ grown → layer < grown → pushed ≡ layers ++ layer ∷ []
    → All (λ it. it < grown) pushed
columns_within layers pushed layer filled grown within grows fits whole =
    subst (All (λ it. it < grown)) (sym whole)
    (All-push (λ it. it < grown) layers layer (λ k d inside. omega (arith, within k d inside, grows)) fits)
