-- Classes of numbered items that lead to each other, and the two searches that find them.
use Rattle.std.specs.Prelude.{◌≡◌, ◌≢◌, ℕ, ◌+◌, ◌<◌, ◌≤◌, ◌⊎◌, ◌↔◌, Bool, true, false, List, [], length, slice_index, slice_index_or, Option, Some, None, Contains, sum_by}
use Rattle.bundle_order_graph.specs.Walks.{Reaches, Path}
use Rattle.bundle_order_graph.specs.declared.classes.Visit.{Visit}

-- an edge leads from s to t
abbrev pub Leads : List (List ℕ) → ℕ → ℕ → Type 0
Leads edges s t = Contains (slice_index_or edges s []) t

-- no edge leads out of the list
abbrev pub AreWithin : List (List ℕ) → Type 0
AreWithin edges = (s t : ℕ) → Leads edges s t → t < length edges

-- the users of an item are those from which an edge leads to it
abbrev pub AreReversed : List (List ℕ) → List (List ℕ) → Type 0
AreReversed edges users = (s t : ℕ) → Leads users t s ↔ Leads edges s t

-- the item is noted as a user of each of these, and no other is
abbrev pub AddsUser : List ℕ → ℕ → List (List ℕ) → List (List ℕ) → Type 0
AddsUser ends user old new =
    (s t : ℕ) → Leads new t s ↔ (Leads old t s ⊎ ((s ≡ user) × Contains ends t))

-- an edge leads to an item that does not rank above the one that it leaves; and where it does not
-- rank below, a path leads back. Items that rank alike reach each other
pub record AreRanks (edges : List (List ℕ)) (ranks : List ℕ) : Type 0 where
  pub len : length ranks ≡ length edges
  pub small : (s : ℕ) → s < length edges → slice_index ranks s < length edges
  pub alike : (s t : ℕ) →
      s < length edges →
      t < length edges →
      slice_index ranks s ≡ slice_index ranks t →
      Reaches (Leads edges) s t
  pub falls : (s t : ℕ) → Leads edges s t → slice_index ranks t ≤ slice_index ranks s
  pub back : (s t : ℕ) →
      Leads edges s t →
      slice_index ranks s ≤ slice_index ranks t →
      Path (Leads edges) t s

-- all that is listed from place k up to place j is reached from t
abbrev pub ReachesAll : List (List ℕ) → List ℕ → ℕ → ℕ → ℕ → Type 0
ReachesAll edges listed t k j =
    (m : ℕ) → k ≤ m → m ≤ j → Reaches (Leads edges) t (slice_index listed m)

-- where t is, to which an edge leads from what is listed at place k: listed before, or listed from
-- there on, and then all up to it is reached from it
pub data IsListed (edges : List (List ℕ)) (listed : List ℕ) (k t : ℕ) : Type 0 where
  earlier : (j : ℕ) → j < k → slice_index listed j ≡ t → IsListed edges listed k t
  later : (j : ℕ) →
      k ≤ j →
      j < length listed →
      slice_index listed j ≡ t →
      ReachesAll edges listed t k j →
      IsListed edges listed k t

-- a post-order of all items: each once, and of an edge to an item that is listed later, that item
-- reaches all that is listed up to it
pub record IsPostOrder (edges : List (List ℕ)) (listed : List ℕ) : Type 0 where
  pub within : (k : ℕ) → k < length listed → slice_index listed k < length edges
  pub all : (t : ℕ) → t < length edges → Contains listed t
  pub once : (i j : ℕ) → i < j → j < length listed → slice_index listed i ≢ slice_index listed j
  pub back : (k t : ℕ) →
      k < length listed →
      Leads edges (slice_index listed k) t →
      IsListed edges listed k t

-- The walk that lists them.

abbrev pub no_visit : Visit
no_visit = record { item = 0; next = 0 }

abbrev pub visit_at : List Visit → ℕ → Visit
visit_at visits i = slice_index_or visits i no_visit

abbrev pub IsBegun : List Bool → ℕ → Type 0
IsBegun begun t = slice_index_or begun t false ≡ true

-- where t is: listed, or still open, and then all that was listed from place k on is reached from
-- it
pub data IsMet
    (edges : List (List ℕ)) (visits : List Visit) (listed : List ℕ) (k t : ℕ) : Type 0 where
  is_listed : IsListed edges listed k t → IsMet edges visits listed k t
  is_open : (i : ℕ) →
      i < length visits →
      (visit_at visits i).item ≡ t →
      ((m : ℕ) → k ≤ m → m < length listed → Reaches (Leads edges) t (slice_index listed m)) →
      IsMet edges visits listed k t

-- the walk has come this far: what is begun is listed or open
pub record Walking
    (edges : List (List ℕ)) (begun : List Bool) (visits : List Visit)
    (listed : List ℕ) : Type 0 where
  pub len : length begun ≡ length edges
  pub found : (t : ℕ) →
      IsBegun begun t →
      Contains listed t ⊎ ((i : ℕ) × (i < length visits) × ((visit_at visits i).item ≡ t))
  -- the open ones
  pub open_begun : (i : ℕ) → i < length visits → IsBegun begun (visit_at visits i).item
  pub open_once : (i j : ℕ) →
      i < j →
      j < length visits →
      (visit_at visits i).item ≢ (visit_at visits j).item
  pub apart : (i k : ℕ) →
      i < length visits →
      k < length listed →
      (visit_at visits i).item ≢ slice_index listed k
  pub chain : (i j : ℕ) →
      i ≤ j →
      j < length visits →
      Reaches (Leads edges) (visit_at visits i).item (visit_at visits j).item
  pub looked : (i n : ℕ) →
      i < length visits →
      n < (visit_at visits i).next →
      n < length (slice_index_or edges (visit_at visits i).item []) →
      IsBegun begun (slice_index (slice_index_or edges (visit_at visits i).item []) n)
  -- the listed ones
  pub listed_begun : (k : ℕ) → k < length listed → IsBegun begun (slice_index listed k)
  pub once : (i j : ℕ) → i < j → j < length listed → slice_index listed i ≢ slice_index listed j
  pub back : (k t : ℕ) →
      k < length listed →
      Leads edges (slice_index listed k) t →
      IsMet edges visits listed k t

-- The ranks: the place of the last item of the class, for those that have one.

abbrev pub rank_of : List (Option ℕ) → ℕ → Option ℕ
rank_of ranks x = slice_index_or ranks x None

-- item x has a rank
abbrev pub IsRanked : List (Option ℕ) → ℕ → Type 0
IsRanked ranks x = (q : ℕ) × (rank_of ranks x ≡ Some q)

-- item x is of the class whose last item is listed at place q: it reaches that one, and all listed
-- between is reached from that one
pub record IsMember (edges : List (List ℕ)) (listed : List ℕ) (x q : ℕ) : Type 0 where
  pub within : q < length listed
  pub to : Reaches (Leads edges) x (slice_index listed q)
  pub from : (k : ℕ) →
      k < length listed →
      slice_index listed k ≡ x →
      (k ≤ q) × ReachesAll edges listed (slice_index listed q) k q

-- the ranking has come this far: what is listed from place above on has a rank, and so has all from
-- which an edge leads to a ranked item, unless that one waits
pub record Ranking
    (edges : List (List ℕ)) (listed : List ℕ) (above : ℕ) (ranks : List (Option ℕ))
    (waiting : List ℕ) : Type 0 where
  pub len : length ranks ≡ length edges
  pub low : (x q : ℕ) → rank_of ranks x ≡ Some q → above ≤ q + 1
  pub member : (x q : ℕ) → rank_of ranks x ≡ Some q → IsMember edges listed x q
  pub after : (k : ℕ) → above ≤ k → k < length listed → IsRanked ranks (slice_index listed k)
  pub closed : (s t q : ℕ) →
      Leads edges s t →
      rank_of ranks t ≡ Some q →
      Contains waiting t ⊎ ((p : ℕ) × (rank_of ranks s ≡ Some p) × (q ≤ p))
  pub waits : (x : ℕ) → Contains waiting x → (q : ℕ) × (rank_of ranks x ≡ Some q) × (q + 1 ≡ above)

-- 1 for an item without a rank
abbrev pub unranked : Option ℕ → ℕ
unranked None = 1
unranked (Some q) = 0

-- what has still to be ranked or waits
abbrev pub left_to_rank : List (Option ℕ) → List ℕ → ℕ
left_to_rank ranks waiting = sum_by unranked ranks + length waiting

-- those of the users that had no rank have this one, and wait
pub record RanksUsers
    (users : List ℕ) (rank : ℕ) (old : List (Option ℕ)) (old_waiting : List ℕ)
    (new : List (Option ℕ)) (new_waiting : List ℕ) : Type 0 where
  pub len : length new ≡ length old
  pub kept : (x q : ℕ) → rank_of old x ≡ Some q → rank_of new x ≡ Some q
  pub same : (x : ℕ) → Contains old_waiting x → Contains new_waiting x
  pub news : (x q : ℕ) →
      rank_of new x ≡ Some q →
      (rank_of old x ≡ Some q)
      ⊎ ((q ≡ rank) × (rank_of old x ≡ None) × Contains users x × Contains new_waiting x)
  pub waits : (x : ℕ) →
      Contains new_waiting x →
      Contains old_waiting x ⊎ (rank_of new x ≡ Some rank)
  pub left : left_to_rank new new_waiting ≡ left_to_rank old old_waiting

-- over a post-order of the edges that the users are the reverse of, the class of the item at this
-- place has its rank
abbrev pub RanksClass : List (List ℕ) → List ℕ → ℕ → List (Option ℕ) → List (Option ℕ) → Type 0
RanksClass users listed place old new =
    (edges : List (List ℕ)) →
    AreReversed edges users →
    IsPostOrder edges listed →
    rank_of old (slice_index listed place) ≡ None →
    Ranking edges listed (place + 1) old [] →
    Ranking edges listed place new []
