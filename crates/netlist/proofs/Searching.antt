-- A search stays sound as it marks lines, and what it has followed to the end leaves out no walk.
use Rattle.std.proofs.Common.{◌≡◌, ℕ, zero, suc, ◌+◌, ◌<◌, Bool, true, false, cond, not, ◌⊎◌, List, [], ◌∷◌, ◌++◌, length, get_or, set, replicate, count_by, sym, refl, ap, ◌∙◌, subst, inl, inr, ⊎_elim, arith, length-set, below_more, Contains}
use Rattle.std.proofs.lemmas.List.{length-append, length-drop, length-replicate, drop-append-le, get_or_past, get_or-replicate, get_or-set_same, get_or-set_other}
use Rattle.std.proofs.lemmas.List.Elements.{Contains-append_left, Contains-push, Contains-push_cases}
use Rattle.std.proofs.lemmas.List.Folds.{sum_by-replicate}
use Rattle.std.proofs.lemmas.List.Sums.{sum_by-set}
use Rattle.std.proofs.lemmas.Bool.{cases_eq, cases_lt, both_ways}
use Rattle.std.specs.Int.{is_in_range}
use Rattle.netlist.specs.declared.draft.search.Search.{Search}
use Rattle.netlist.specs.Gates.{Circuit}
use Rattle.netlist.specs.Searches.{seen, unseen, waiting, Waits, marked, Takes, Sound, Grows, Followed}
use Rattle.netlist.specs.Walks.{reads, Reads, Walk, Leads}
use Rattle.netlist.proofs.Ranges.{inside}
use Rattle.netlist.specs.Walks.Walk.{step, on}

one_less : (marks : List Bool) (m : ℕ) → m < length marks → get_or marks m false ≡ false → count_by not (set marks m true) + 1 ≡ count_by not marks
one_less marks m within off =
    let moved = sum_by-set (λ b. cond (not b) 1 0) marks m true false within in
    let was : ◌≡◌ {A = ℕ} (cond (not (get_or marks m false)) 1 0) 1 = ap (λ b. cond (not b) 1 0) off in
    omega (arith, moved, was)

pub grows_trans : (c : Circuit) (n : ℕ) (s t u : Search) → Grows c n s t → Grows c n t u → Grows c n s u
grows_trans c n s t u g h = record {
  seen_stays = λ m e. h.seen_stays m (g.seen_stays m e);
  waits_stays = λ m w. h.waits_stays m (g.waits_stays m w);
  new_waits = λ m e. ⊎_elim (λ before. ⊎_elim inl (λ w. inr (h.waits_stays m w)) (g.new_waits m before)) inr (h.new_waits m e);
  new_read = λ m w. ⊎_elim (g.new_read m) inr (h.new_read m w);
  moved = h.moved ∙ g.moved;
  fewer = omega arith;
}

module _ (c : Circuit) (first last n : ℕ) (s : Search) (ok : Sound first last s) (m : ℕ) (fits : m < 1025) (fresh : seen s m ≡ false) where
  on_table : m < length s.seen
  on_table = rw ok.table fits

  fewer_by_one : unseen (marked s m) + 1 ≡ unseen s
  fewer_by_one = one_less s.seen m on_table fresh

  one_more : length (marked s m).found.items ≡ length s.found.items + 1
  one_more = length-append s.found.items (m ∷ [])

  waits_last : waiting (marked s m) ≡ waiting s ++ m ∷ []
  waits_last = drop-append-le s.next s.found.items (m ∷ []) ok.within

  one_more_waits : length (waiting (marked s m)) ≡ length (waiting s) + 1
  one_more_waits = ap length waits_last ∙ length-append (waiting s) (m ∷ [])

  pub room : length s.found.items < 1026
  room = omega (arith, fewer_by_one, ok.room)

  seen_before : (k : ℕ) → (k ≡ m → ⊥) → seen (marked s m) k ≡ true → seen s k ≡ true
  seen_before k other e = sym (get_or-set_other s.seen m k true false other) ∙ e

  pub mark_grows : Reads c n m → Grows c n s (marked s m)
  mark_grows read = record {
    seen_stays = λ k e. ⊎_elim (λ same. subst (λ j. seen (marked s m) j ≡ true) (sym same) (get_or-set_same s.seen m true false on_table)) (λ other. get_or-set_other s.seen m k true false other ∙ e) (cases_eq k m);
    waits_stays = λ k w. subst (λ l. Contains l k) (sym waits_last) (Contains-append_left (waiting s) (m ∷ []) k w);
    new_waits = λ k e. ⊎_elim (λ same. inr (subst (λ l. Contains l k) (sym waits_last) (subst (Contains (waiting s ++ m ∷ [])) (sym same) (Contains-push (waiting s) m)))) (λ other. inl (seen_before k other e)) (cases_eq k m);
    new_read = λ k w. ⊎_elim inl (λ is. inr (subst (Reads c n) is read)) (Contains-push_cases (waiting s) m k (subst (λ l. Contains l k) waits_last w));
    moved = omega (arith, one_more_waits, fewer_by_one);
    fewer = omega (arith, fewer_by_one);
  }

  pub mark_sound : is_in_range first last m ≡ false → Sound first last (marked s m)
  mark_sound out = record {
    table = length-set s.seen m true ∙ ok.table;
    room = omega (arith, one_more, fewer_by_one, ok.room);
    within = omega (arith, one_more, ok.within);
    outside = λ k e. ⊎_elim (λ same. ap (is_in_range first last) same ∙ out) (λ other. ok.outside k (seen_before k other e)) (cases_eq k m);
  }

-- a visit of line n, begun at the search s₀, has marked the lines that n reads below place i
pub record Visiting (c : Circuit) (first last n : ℕ) (s₀ : Search) (i : ℕ) (s : Search) : Type 0 where
  pub sound : Sound first last s
  pub grown : Grows c n s₀ s
  pub marked : (k : ℕ) → k < i → seen s (get_or (reads c n) k 0) ≡ true

module _ (c : Circuit) (first last n : ℕ) (s₀ s : Search) (i m : ℕ) (at : get_or (reads c n) i 0 ≡ m) (so_far : Visiting c first last n s₀ i s) where
  pub visit_seen : seen s m ≡ true → Visiting c first last n s₀ (i + 1) s
  visit_seen here = record { sound = so_far.sound; grown = so_far.grown; marked = below_more _ i so_far.marked (ap (seen s) at ∙ here) }

  pub visit_marked : Reads c n m → m < 1025 → seen s m ≡ false → is_in_range first last m ≡ false → Visiting c first last n s₀ (i + 1) (marked s m)
  visit_marked read fits fresh out =
      let ok = so_far.sound in
      let grown = mark_grows c first last n s ok m fits fresh read in
      let on_table : m < length s.seen = rw ok.table fits in
      record {
        sound = mark_sound c first last n s ok m fits fresh out;
        grown = grows_trans c n s₀ s (marked s m) so_far.grown grown;
        marked = below_more _ i (λ k below. grown.seen_stays _ (so_far.marked k below)) (ap (seen (marked s m)) at ∙ get_or-set_same s.seen m true false on_table);
      }

-- line j is line n, or leads to it
abbrev pub Upstream : Circuit → ℕ → ℕ → Type 0
Upstream c n j = (j ≡ n) ⊎ Walk c j n

-- a line that line j reads leads to all that j is upstream of
further : (c : Circuit) (n j m : ℕ) → Upstream c n j → Reads c j m → Walk c m n
further c n j m up read = ⊎_elim (λ e. step (subst (λ k. Reads c k m) e read)) (λ w. on read w) up

-- walks one after the other
pub joined : (c : Circuit) (m j n : ℕ) → Walk c m j → Walk c j n → Walk c m n
joined c m j n (step read) after = on read after
joined c m j n (on {j = k} read walk) after = on read (joined c k j n walk after)

-- a search for line n: what waits is upstream of n, and n and what is seen waits or was followed
pub record Progress (c : Circuit) (first last n : ℕ) (s : Search) : Type 0 where
  pub sound : Sound first last s
  pub upstream : (m : ℕ) → Waits s m → Upstream c n m
  pub done : (m : ℕ) → (m ≡ n) ⊎ (seen s m ≡ true) → Waits s m ⊎ Followed c s m

pub begins : (c : Circuit) (first last n : ℕ) (s : Search) → s.seen ≡ replicate 1025 false → waiting s ≡ n ∷ [] → length s.found.items ≡ 1 → Progress c first last n s
begins c first last n s clear waits one = record {
  sound = record {
    table = ap length clear ∙ length-replicate 1025 false;
    room = omega (arith, one, ap (count_by not) clear ∙ sum_by-replicate (λ b. cond (not b) 1 0) 1025 false);
    within = omega (arith, one, ap length waits, length-drop s.next s.found.items);
    outside = λ m e. absurd (unmarked m e);
  };
  upstream = λ m w. ⊎_elim (λ none. absurd (omega (arith, none.1))) (λ is. inl (sym is)) (Contains-push_cases [] n m (subst (λ l. Contains l m) waits w));
  done = λ m some. ⊎_elim (λ same. inl (subst (λ l. Contains l m) (sym waits) (subst (Contains (n ∷ [])) (sym same) (Contains-push [] n)))) (λ e. absurd (unmarked m e)) some;
}
  where
    off : (m : ℕ) → get_or (replicate 1025 false) m false ≡ false
    off m = ⊎_elim (λ within. get_or-replicate 1025 m false false within) (λ past. get_or_past (replicate 1025 false) m false (omega (arith, length-replicate 1025 false))) (cases_lt m 1025)

    unmarked : (m : ℕ) → seen s m ≡ true → ⊥
    unmarked m e = both_ways _ (ap (λ l. get_or l m false) clear ∙ off m) e

waits_first : (line : ℕ) (ns : List ℕ) → Contains (line ∷ ns) line
waits_first line ns = (0, omega arith, refl)

waits_later : (line m : ℕ) (ns : List ℕ) → Contains ns m → Contains (line ∷ ns) m
waits_later line m ns (k, within, is) = (suc k, omega arith, is)

first_or_later : (line m : ℕ) (ns : List ℕ) → Contains (line ∷ ns) m → Contains ns m ⊎ (line ≡ m)
first_or_later line m ns (zero, within, is) = inr is
first_or_later line m ns (suc k, within, is) = inl (k, omega arith, is)

-- the line that has waited longest is taken, and followed
module _ (c : Circuit) (first last n : ℕ) (s p : Search) (line : ℕ) (so_far : Progress c first last n s) (taken : Takes s line p) where
  same : p.seen ≡ s.seen
  same = taken.same_seen

  waited : (m : ℕ) → Waits p m → Waits s m
  waited m w = subst (λ l. Contains l m) (sym taken.first) (waits_later line m (waiting p) w)

  pub next_upstream : Upstream c n line
  next_upstream = so_far.upstream line (subst (λ l. Contains l line) (sym taken.first) (waits_first line (waiting p)))

  pub next_sound : Sound first last p
  next_sound = record {
    table = ap length same ∙ so_far.sound.table;
    room = omega (arith, ap (λ f. length f.items) taken.same_found, ap (count_by not) same, so_far.sound.room);
    within = taken.within;
    outside = λ m e. so_far.sound.outside m (ap (λ l. get_or l m false) (sym same) ∙ e);
  }

  pub goes_on : (t : Search) → Sound first last t → Grows c line p t → Followed c t line → Progress c first last n t
  goes_on t ok grown followed = record {
    sound = ok;
    upstream = λ m w. ⊎_elim (λ old. so_far.upstream m (waited m old)) (λ read. inr (further c n line m next_upstream read)) (grown.new_read m w);
    done = λ m some. ⊎_elim (λ is. waiting_or_followed m (so_far.done m (inl is))) (λ e. ⊎_elim (λ before. waiting_or_followed m (so_far.done m (inr (ap (λ l. get_or l m false) (sym same) ∙ before)))) inl (grown.new_waits m e)) some;
  }
    where
      stays : (m : ℕ) → seen s m ≡ true → seen t m ≡ true
      stays m e = grown.seen_stays m (ap (λ l. get_or l m false) same ∙ e)

      still : (m : ℕ) → Waits s m → Waits t m ⊎ Followed c t m
      still m w = ⊎_elim (λ old. inl (grown.waits_stays m old)) (λ is. inr (subst (Followed c t) is followed)) (first_or_later line m (waiting p) (subst (λ l. Contains l m) taken.first w))

      waiting_or_followed : (m : ℕ) → Waits s m ⊎ Followed c s m → Waits t m ⊎ Followed c t m
      waiting_or_followed m was = ⊎_elim (still m) (λ f. inr (λ k read. stays k (f k read))) was

  pub found : Leads c first last line → Leads c first last n
  found lead = record {
    from = lead.from;
    not_before = lead.not_before;
    not_after = lead.not_after;
    walk = ⊎_elim (λ is. subst (Walk c lead.from) is lead.walk) (joined c lead.from line n lead.walk) next_upstream;
  }

-- where nothing waits, every line that leads to the start is seen
all_seen : (c : Circuit) (first last n : ℕ) (s : Search) → Progress c first last n s → ((m : ℕ) → Waits s m → ⊥) → (m k : ℕ) → k ≡ n → Walk c m k → seen s m ≡ true
all_seen c first last n s so_far none m k is (step read) = ⊎_elim (λ w. absurd (none k w)) (λ f. f m read) (so_far.done k (inl is))
all_seen c first last n s so_far none m k is (on {j = j} read walk) =
    ⊎_elim (λ w. absurd (none j w)) (λ f. f m read) (so_far.done j (inr (all_seen c first last n s so_far none j k is walk)))

pub ends : (c : Circuit) (first last n : ℕ) (s : Search) → Progress c first last n s → length (waiting s) ≡ 0 → Leads c first last n → ⊥
ends c first last n s so_far empty lead =
    let was = all_seen c first last n s so_far (λ m w. omega (arith, w.1)) lead.from n refl lead.walk in
    both_ways _ (so_far.sound.outside lead.from was) (inside first last lead.from lead.not_before lead.not_after)
