-- What holds of every entry of every box, after each change, and of what is drawn.
use Rattle.std.proofs.Common.{◌≡◌, ℕ, zero, suc, Bool, true, ◌||◌, List, [], ◌∷◌, length, subst, arith}
use Rattle.std.proofs.lemmas.Grind.{common_steps}
use Rattle.std.proofs.lemmas.Slice.Eq.{bytes_eq-Decides}
use Rattle.std.proofs.lemmas.Bool.{and_parts}
use Rattle.std.specs.List.{AllByRecursion}
use Rattle.std.specs.Str.{bytes_eq}
use Rattle.rosters.specs.Sound.{index}
use Rattle.scheme.specs.Pieces.{Indexed}
use Rattle.table.proofs.Carried.{all_changed, all_look, all_weaker}
use Rattle.model.specs.Boxes.{all_drawn, all_left, boxes_with, drawn_from, left_from, renewed, sent_by, stands_at, turned, wanted_by}
use Rattle.model.specs.State.{Early, Peer, Sent}
use Rattle.runs.proofs.Each.{all_append, all_drop, all_map}
use Rattle.runs.proofs.Entries.{found_key}

pub same_bytes : (xs ys : List ℕ) → bytes_eq xs ys ≡ true → xs ≡ ys
same_bytes xs ys h = (bytes_eq-Decides xs ys).0 h

module _ {X : Type 0} (P : X → Type 0) where
  all_turned : (xs : List X) → AllByRecursion P xs → AllByRecursion P (turned xs)
  all_turned xs all = grind (arith, common_steps)

  pub drawn_all : (wanted : X → Bool) (n : ℕ) (xs : List X) → AllByRecursion P xs → AllByRecursion (λ x. P x × (wanted x ≡ true)) (drawn_from wanted n xs)
  drawn_all wanted zero xs all = tt
  drawn_all wanted (suc n) [] all = tt
  drawn_all wanted (suc n) (x ∷ xs) all = grind (arith, drawn_all wanted n (turned xs) (all_turned xs all.1), drawn_all wanted n xs all.1)

  pub left_all : (wanted : X → Bool) (n : ℕ) (xs : List X) → AllByRecursion P xs → AllByRecursion P (left_from wanted n xs)
  left_all wanted zero xs all = all
  left_all wanted (suc n) [] all = tt
  left_all wanted (suc n) (x ∷ xs) all = grind (arith, left_all wanted n (turned xs) (all_turned xs all.1), left_all wanted n xs all.1)

-- H says of a commitment, a key and a shard that the peer handed the shard in
module _ (H : List ℕ → List ℕ → Indexed → Type 0) where
  abbrev pub Brought : List ℕ → Early → Type 0
  Brought k e = H e.commitment k e.shard

  abbrev pub Filled : Peer → Type 0
  Filled p = AllByRecursion (Brought p.key) p.box

  pub renewed-filled : (ks : List (List ℕ)) (ps : List Peer) → AllByRecursion Filled ps → AllByRecursion Filled (renewed ks ps)
  renewed-filled [] ps all = tt
  renewed-filled (k ∷ ks) ps all = grind (arith, found_key, all_look, renewed-filled ks ps all)

  pub boxed-filled : (limit : ℕ) (k : List ℕ) (e : Early) (ps : List Peer) → Brought k e → AllByRecursion Filled ps → AllByRecursion Filled (boxes_with limit k e ps)
  boxed-filled limit k e ps h all = grind (arith, all_changed, found_key, all_append, all_drop)

  pub left-filled : (wanted : List ℕ → Early → Bool) (ps : List Peer) → AllByRecursion Filled ps → AllByRecursion Filled (all_left wanted ps)
  left-filled wanted ps all = grind (arith, all_map, all_weaker, left_all)

  -- what is drawn for a commitment was handed in for it
  pub drawn_brought : (c : List ℕ) (led : Bool) (keys : List (List ℕ)) (ps : List Peer) → AllByRecursion Filled ps → AllByRecursion (λ p. H c p.sender p.shard) (all_drawn (wanted_by c led keys) ps)
  drawn_brought c led keys [] all = tt
  drawn_brought c led keys (p ∷ ps) all =
      let Q : Sent → Type 0 = λ x. H c x.sender x.shard in
      let wanted = wanted_by c led keys p.key in
      let sends : Early → Sent = λ e. record { sender = p.key; shard = e.shard } in
      all_append Q (sent_by (wanted_by c led keys) p) (all_drawn (wanted_by c led keys) ps)
      (all_map Q sends (drawn_from wanted (length p.box) p.box)
      (all_weaker (λ e. Brought p.key e × (wanted e ≡ true)) (λ e. Q (sends e))
      (λ e h. subst (λ d. H d p.key e.shard) (same_bytes e.commitment c (and_parts (bytes_eq e.commitment c) (led || stands_at e.shard.index (index p.key keys)) h.1).0) h.0)
      (drawn_from wanted (length p.box) p.box)
      (drawn_all (Brought p.key) wanted (length p.box) p.box all.0)))
      (drawn_brought c led keys ps all.1)
