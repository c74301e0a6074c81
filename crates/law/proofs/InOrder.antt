-- What every call keeps of a history's journal.
use Rattle.std.proofs.Common.{◌≡◌, ℕ, zero, suc, ◌+◌, ◌<◌, ◌≤◌, Bool, true, false, cond, not, ◌&&◌, eqb, ltb, leb, List, [], ◌∷◌, ◌++◌, length, get_or, sym, refl, ap, ◌∙◌, subst, ap₂, ⊎_elim, arith, length-set, get_or-set_other, get_or-set_same}
use Rattle.std.specs.List.{AllByRecursion}
use Rattle.std.proofs.lemmas.Bool.{and_parts, or_right, or_left, cases_eq, cond-true, eqb-true, ltb-true, leb-true}
use Rattle.std.proofs.ByRecursion.{All-append, All-weaker}
use Rattle.basis.specs.Lists.{any, upto}
use Rattle.cells.specs.declared.types.Cell.{Cell}
use Rattle.query.specs.Queries.{Query}
use Rattle.query.specs.Rows.{all_fit}
use Rattle.stores.specs.Tables.{Table, table_at, count_at, grown}
use Rattle.policies.specs.Modules.{has}
use Rattle.algebra.specs.Algebra.{Relations}
use Rattle.rules.specs.Calls.{RunState, World, Output, own, newest_complete, newest_rows, older, feed_refusal, step_refusal, take_refusal, names_out, back_refusal, line_of, post_refusal, with_row, one_more_at, feed_run, step_waiting, post_output, Call, Answer, Reply, reply, call, feed, step, take, post, back, refused}
use Rattle.rules.specs.Counts.{Counts, counted}
use Rattle.rules.specs.Lists.{bit, times, same_list, grow}
use Rattle.rules.specs.Moves.{tables, filters, spans, is_idle, complete, module_ready, ready, no_modules, in_state, move, choices}
use Rattle.rules.specs.Reads.{relations_of, stamp_of_row}
use Rattle.rules.specs.declared.types.State.TheVariants.{Idle}
use Rattle.rules.specs.declared.types.Tuple.{Tuple}
use Rattle.law.proofs.Fed.{fed_fit, fed_below, fed_rising, fed_sound, new_sound, new_once, old_comb, old_meets, old_once, old_right}
use Rattle.law.proofs.Fits.{CellsFit, fit_at}
use Rattle.law.proofs.Outputs.{written-laid}
use Rattle.law.proofs.Paid.{paid_comb, paid_meets, paid_owes}
use Rattle.law.proofs.Sound.{Sound, Rising, move_sound, move-owes}
use Rattle.law.specs.Histories.{member_if_any, well_chosen, all_well_chosen, opened, empty_store, opening, History, Posting, Journal, written, noted, journal_after, beginning, journal}
use Rattle.law.specs.Law.{Combination, Meets, owes, RightPosting}
use Rattle.rules.proofs.Checked.{Checked}
use Rattle.rules.proofs.Grows.{count_with_other, count_with, relations_with}
use Rattle.rules.proofs.Ready.{some_member}
use Rattle.rules.proofs.Sets.{ready_member}
use Rattle.rules.proofs.Times.{times-append, same_list_true}
use Rattle.rules.proofs.Uptos.{clash}

abbrev pub names : List ℕ → Posting → Bool
names c p = same_list c p.rows

pub record Kept (q : Query) (rows : Relations) (ps : List Posting) (r : RunState) (ts : List Table) : Type 0 where
  pub six : length ts ≡ 6
  pub long : length r.accepted ≡ 6
  pub owned : (t : ℕ) → count_at ts t ≡ get_or r.accepted t 0
  pub same_rows : rows ≡ relations_of ts
  pub cells : CellsFit q ts
  pub rising : Rising ts
  pub below : (t n : ℕ) → 1 ≤ n → n ≤ count_at ts t → stamp_of_row ts t n < r.next
  pub sound : AllByRecursion (Sound q ts r.next) r.waiting
  pub slip_out : r.out ≡ true → newest_complete q r.waiting ≡ true
  pub good : AllByRecursion (RightPosting q (relations_of ts)) ps
  pub once : (c : List ℕ) → Combination q (relations_of ts) c → Meets q (relations_of ts) c → times (names c) ps + times (owes q ts c) r.waiting ≡ 1

-- a reply is a grant or a refusal
pub by_reply : (P : Reply → Type 0) (n : ℕ) (w : World) (a : Answer) (v : World) (out : Output)
    → (n ≡ 0 → P (record { answer = a; world = v; output = out })) → ((k : ℕ) → P (record { answer = refused (suc k); world = w; output = out }))
    → P (reply n w a v out)
by_reply P zero w a v out f g = f refl
by_reply P (suc n) w a v out f g = g n

-- a question that was met with yes
pub yes_to : (b : Bool) (k rest : ℕ) → cond b rest (suc k) ≡ 0 → (b ≡ true) × (rest ≡ 0)
yes_to true k rest h = (refl, h)
yes_to false k rest h = absurd (let z : ⊥ = omega arith in z)

-- a step's module is ready where it counts
abbrev pub Fitting : Query → ℕ → List Tuple → Type 0
Fitting q m [] = Unit {0}
Fitting q m (x ∷ xs) = complete q x ≡ false → is_idle x.state ≡ true → module_ready q x m ≡ true

any_member : (members : List Bool) (k : ℕ) → get_or members k false ≡ true → any (λ b. b) members ≡ true
any_member [] k h = h
any_member (b ∷ bs) zero h = or_left b (any (λ b. b) bs) h
any_member (b ∷ bs) (suc k) h = or_right b (any (λ b. b) bs) (any_member bs k h)

pub fitting : (q : Query) → Checked q → (ts : List Table) (next m : ℕ) (xs : List Tuple) → AllByRecursion (Sound q ts next) xs → member_if_any (choices q xs) m ≡ true → Fitting q m xs
fitting q lawful ts next m [] d h = tt
fitting q lawful ts next m (x ∷ xs) d h = λ e i.
    let a : (is_idle x.state && not (complete q x)) ≡ true = ap₂ (λ a b. a && not b) i e in
    let un : complete q (in_state x Idle) ≡ false =
    sym (ap (λ b. b && (upto (tables q) (spans x.rows) && upto (filters q) (λ i. get_or x.done i false))) i) ∙ e in
    let some = some_member q lawful x d.0.shape.base (d.0.shape.inside d.0.shape.base d.0.shape.based) d.0.shape.based un in
    let asked : member_if_any (ready q x) m ≡ true =
    subst (λ (z : List Bool). member_if_any z m ≡ true) (cond-true (is_idle x.state && not (complete q x)) (ready q x) no_modules a) h in
    (ready_member q x m (sym (cond-true (any (λ b. b) (ready q x)) (has (ready q x) m) true (any_member (ready q x) some.0 some.1)) ∙ asked)).1

module _ (q : Query) (lawful : Checked q) (rows : Relations) (ps : List Posting) (r : RunState) (ts : List Table) (k : Kept q rows ps r ts) where
  -- feed
  feed_kept : (t : ℕ) (cells : List Cell) → t < tables q → length cells ≡ length (get_or q.headings t []) → all_fit (get_or q.headings t []) cells ≡ true
      → Kept q (grow rows t cells) ps (feed_run r ts t) (with_row ts t cells r.next)
  feed_kept t cells low wide fit =
      let six = lawful.six in
      let l = k.six in
      let l' = k.long in
      let in' : t < length ts = omega arith in
      let ts' : List Table = with_row ts t cells r.next in
      record {
        six = length-set ts t (grown (table_at ts t) (record { cells = cells; stamp = r.next })) ∙ k.six;
        long = length-set r.accepted t (suc (get_or r.accepted t 0)) ∙ k.long;
        owned = λ u.
            ⊎_elim
            (λ e. subst (λ (v : ℕ). count_at ts' v ≡ get_or (one_more_at r.accepted t) v 0) (sym e)
            (count_with ts t cells r.next in' ∙ ap suc (k.owned t) ∙ sym (get_or-set_same r.accepted t (suc (get_or r.accepted t 0)) 0 (omega arith))))
            (λ ne. count_with_other ts t cells r.next u ne ∙ k.owned u ∙ sym (get_or-set_other r.accepted t u (suc (get_or r.accepted t 0)) 0 ne))
            (cases_eq u t);
        same_rows = ap (λ (z : Relations). grow z t cells) k.same_rows ∙ sym (relations_with ts t cells r.next);
        cells = fed_fit ts t cells r.next in' q k.cells (λ c d. fit_at (get_or q.headings t []) cells wide fit c d);
        rising = fed_rising ts t cells r.next in' k.rising k.below;
        below = fed_below ts t cells r.next in' k.rising k.below;
        sound = (
          new_sound ts t cells r.next in' k.rising k.below q lawful low,
          All-weaker (Sound q ts r.next) (Sound q ts' (suc r.next)) (fed_sound ts t cells r.next in' k.rising k.below q) r.waiting k.sound,
        );
        slip_out = λ h. clash false h refl;
        good = All-weaker (RightPosting q (relations_of ts)) (RightPosting q (relations_of ts')) (old_right ts t cells r.next in' k.rising k.below q) ps k.good;
        once = λ c comb meet.
            ⊎_elim
            (λ e. new_once ts t cells r.next in' k.rising k.below q lawful low c comb e ps r.waiting k.good k.sound)
            (λ ne. old_once ts t cells r.next in' k.rising k.below q lawful low c comb ne ps r.waiting
            (k.once c (old_comb ts t cells r.next in' k.rising k.below q lawful low c comb ne)
            (old_meets ts t cells r.next in' k.rising k.below q lawful low c comb ne meet)))
            (cases_eq (get_or c t 0) (suc (count_at ts t)));
      }

  -- other calls leave the tables
  again : (xs : List Tuple) (b : Bool) (n : Counts) (ls : List Posting) → AllByRecursion (Sound q ts r.next) xs → (b ≡ true → newest_complete q xs ≡ true) → AllByRecursion (RightPosting q (relations_of ts)) ls
      → ((c : List ℕ) → Combination q (relations_of ts) c → Meets q (relations_of ts) c → times (names c) ls + times (owes q ts c) xs ≡ 1)
      → Kept q rows ls (record { waiting = xs; out = b; accepted = r.accepted; next = r.next; counts = n }) ts
  again xs b n ls d o g on =
      record {
        six = k.six;
        long = k.long;
        owned = k.owned;
        same_rows = k.same_rows;
        cells = k.cells;
        rising = k.rising;
        below = k.below;
        sound = d;
        slip_out = o;
        good = g;
        once = on;
      }

  -- step
  step_kept : (m : ℕ) (n : Counts) (xs : List Tuple) → r.waiting ≡ xs → Fitting q m xs
      → Kept q rows ps (record { waiting = step_waiting q ts m xs; out = false; accepted = r.accepted; next = r.next; counts = n }) ts
  step_kept m n [] e g = again [] false n ps tt (λ h. clash false h refl) k.good (λ c a b. subst (λ (z : List Tuple). times (names c) ps + times (owes q ts c) z ≡ 1) e (k.once c a b))
  step_kept m n (x ∷ xs) e g =
      let d : AllByRecursion (Sound q ts r.next) (x ∷ xs) = subst (AllByRecursion (Sound q ts r.next)) e k.sound in
      again ((move q ts x m).replacement ++ xs) false n ps
      (All-append (Sound q ts r.next) (move q ts x m).replacement xs (move_sound q lawful ts r.next k.cells x m d.0 g) d.1)
      (λ h. clash false h refl) k.good
      (λ c a b.
      let m' = move-owes q lawful ts r.next k.cells k.rising c a b x m d.0 g in
      let n' = times-append (owes q ts c) (move q ts x m).replacement xs in
      let o : times (names c) ps + (bit (owes q ts c x) + times (owes q ts c) xs) ≡ 1 =
      subst (λ (z : List Tuple). times (names c) ps + times (owes q ts c) z ≡ 1) e (k.once c a b) in
      omega arith)

  -- post
  post_kept : (c : List ℕ) (xs : List Tuple) (bytes : List ℕ) → r.waiting ≡ xs → r.out ≡ true → same_list c (newest_rows xs) ≡ true → bytes ≡ line_of q ts c
      → Kept q rows (ps ++ (record { rows = c; bytes = bytes } ∷ [])) (record { waiting = older xs; out = false; accepted = r.accepted; next = r.next; counts = r.counts }) ts
  post_kept c [] bytes e o h w =
      let z : newest_complete q [] ≡ true = subst (λ (z : List Tuple). newest_complete q z ≡ true) e (k.slip_out o) in clash false z refl
  post_kept c (x ∷ xs) bytes e o h w =
      let full : complete q x ≡ true = subst (λ (z : List Tuple). newest_complete q z ≡ true) e (k.slip_out o) in
      let d : AllByRecursion (Sound q ts r.next) (x ∷ xs) = subst (AllByRecursion (Sound q ts r.next)) e k.sound in
      let is = same_list_true c x.rows h in
      let p : Posting = record { rows = c; bytes = bytes } in
      again xs false r.counts (ps ++ (p ∷ [])) d.1 (λ h. clash false h refl)
      (All-append (RightPosting q (relations_of ts)) ps (p ∷ []) k.good (
        record {
          combination = subst (Combination q (relations_of ts)) (sym is) (paid_comb q lawful ts r.next x d.0 full);
          meeting = subst (Meets q (relations_of ts)) (sym is) (paid_meets q lawful ts r.next x d.0 full);
          bytes = w;
        },
        tt,
      ))
      (λ b cb mb.
      let p' : bit (same_list b c) ≡ bit (owes q ts b x) =
      ap bit (subst (λ (z : List ℕ). same_list b z ≡ owes q ts b x) (sym is) (paid_owes q lawful ts r.next x d.0 full b cb)) in
      let o : times (names b) ps + (bit (owes q ts b x) + times (owes q ts b) xs) ≡ 1 =
      subst (λ (z : List Tuple). times (names b) ps + times (owes q ts b) z ≡ 1) e (k.once b cb mb) in
      let a = times-append (names b) ps (p ∷ []) in
      omega arith)

module _ (q : Query) (lawful : Checked q) where
  abbrev pub InOrder : Journal → Type 0
  InOrder j = Kept q j.rows j.postings j.world.run j.world.store

  pub call_kept : (j : Journal) (c : Call) → well_chosen q j.world c ≡ true → InOrder j → InOrder (noted j c (call q j.world c))
  unfolding call
  call_kept j (feed t cells) g k =
      by_reply (λ r. InOrder (noted j (feed t cells) r)) (feed_refusal q j.world.run j.world.store t cells) j.world _ _ _
      (λ e.
      let a = yes_to (own j.world.run j.world.store) 19 _ e in
      let o = yes_to (not j.world.run.out) 20 _ a.1 in
      let l = yes_to (ltb t (tables q)) 21 _ o.1 in
      let w = yes_to (eqb (length cells) (length (get_or q.headings t []))) 22 _ l.1 in
      let f = yes_to (all_fit (get_or q.headings t []) cells) 23 _ w.1 in
      feed_kept q lawful j.rows j.postings j.world.run j.world.store k t cells (ltb-true t (tables q) l.0)
      (eqb-true (length cells) (length (get_or q.headings t [])) w.0) f.0)
      (λ n. k)
  call_kept j (step m) g k =
      by_reply (λ r. InOrder (noted j (step m) r)) (step_refusal j.world.run j.world.store) j.world _ _ _
      (λ e.
      step_kept q lawful j.rows j.postings j.world.run j.world.store k m
      (counted q j.world.store m j.world.run.waiting j.world.run.counts) j.world.run.waiting refl (fitting q lawful j.world.store j.world.run.next m j.world.run.waiting k.sound g))
      (λ n. k)
  call_kept j take g k =
      by_reply (λ r. InOrder (noted j take r)) (take_refusal q j.world.run j.world.store) j.world _ _ _
      (λ e.
      let a = yes_to (own j.world.run j.world.store) 19 _ e in
      let o = yes_to (not j.world.run.out) 20 _ a.1 in
      let l = yes_to (newest_complete q j.world.run.waiting) 26 _ o.1 in
      again q lawful j.rows j.postings j.world.run j.world.store k j.world.run.waiting true j.world.run.counts j.postings k.sound (λ h. l.0) k.good k.once)
      (λ n. k)
  call_kept j (post c out) g k =
      by_reply (λ r. InOrder (noted j (post c out) r)) (post_refusal q j.world.run j.world.store c out) j.world _ _ _
      (λ e.
      let line = line_of q j.world.store c in
      let a = yes_to (own j.world.run j.world.store) 19 _ e in
      let o = yes_to (names_out j.world.run c) 27 _ a.1 in
      let i = yes_to (leb out.place (length out.bytes)) 28 _ o.1 in
      let f = yes_to (leb (out.place + length line) (length out.bytes)) 29 _ i.1 in
      let l = and_parts j.world.run.out (same_list c (newest_rows j.world.run.waiting)) o.0 in
      post_kept q lawful j.rows j.postings j.world.run j.world.store k c j.world.run.waiting
      (written out (post_output (post_refusal q j.world.run j.world.store c out) line out)) refl l.0 l.1
      (ap (λ (n : ℕ). written out (post_output n line out)) e
      ∙ written-laid out.bytes out.place line (leb-true (out.place + length line) (length out.bytes) f.0)))
      (λ n. k)
  call_kept j (back c) g k =
      by_reply (λ r. InOrder (noted j (back c) r)) (back_refusal j.world.run j.world.store c) j.world _ _ _
      (λ e. again q lawful j.rows j.postings j.world.run j.world.store k j.world.run.waiting false j.world.run.counts j.postings k.sound (λ h. clash false h refl) k.good k.once)
      (λ n. k)

  journal-kept : (j : Journal) (calls : List Call) → all_well_chosen q j.world calls ≡ true → InOrder j → InOrder (journal_after q j calls)
  journal-kept j [] g k = k
  journal-kept j (c ∷ cs) g k =
      let p = and_parts (well_chosen q j.world c) (all_well_chosen q (call q j.world c).world cs) g in
      journal-kept (noted j c (call q j.world c)) cs p.1 (call_kept j c p.0 k)

  none_yet : (rooms : ℕ → ℕ) (t : ℕ) → (count_at (empty_store rooms) t ≡ 0) × (get_or opened.accepted t 0 ≡ 0)
  none_yet rooms zero = (refl, refl)
  none_yet rooms (suc zero) = (refl, refl)
  none_yet rooms (suc (suc zero)) = (refl, refl)
  none_yet rooms (suc (suc (suc zero))) = (refl, refl)
  none_yet rooms (suc (suc (suc (suc zero)))) = (refl, refl)
  none_yet rooms (suc (suc (suc (suc (suc zero))))) = (refl, refl)
  none_yet rooms (suc (suc (suc (suc (suc (suc t)))))) = (refl, refl)

  pub opened-kept : (rooms : ℕ → ℕ) → InOrder (beginning (opening rooms))
  opened-kept rooms =
      record {
        six = refl;
        long = refl;
        owned = λ t. (none_yet rooms t).0 ∙ sym (none_yet rooms t).1;
        same_rows = refl;
        cells = λ t r c a b d. let z = (none_yet rooms t).0 in absurd (let y : ⊥ = omega arith in y);
        rising = λ t m n a l b. let z = (none_yet rooms t).0 in absurd (let y : ⊥ = omega arith in y);
        below = λ t n a b. let z = (none_yet rooms t).0 in absurd (let y : ⊥ = omega arith in y);
        sound = tt;
        slip_out = λ h. clash false h refl;
        good = tt;
        once = λ c comb meet. let h = comb.kept 0 lawful.one in absurd (let y : ⊥ = omega arith in y);
      }

  pub history_kept : (h : History q) → InOrder (journal q h)
  unfolding journal
  history_kept h = journal-kept (beginning (opening h.rooms)) h.calls h.chosen (opened-kept h.rooms)
