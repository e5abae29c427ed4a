-- What a file put together holds: the numbers of its header and its parts are those it was made of, checks 1 and 2 let it pass if its parts are whole and few, and a file that they let pass is what it holds, put together.
-- So the file with a part or a number in place of its own keeps all the others. Assumes nothing.
use Prim.Native.Nat.{ℕ, zero, suc, ◌+◌, ◌*◌, ◌-◌, ◌/◌, ◌%◌, ◌≤◌, ◌<◌}
use mathlib.Core.Path.{◌≡◌, refl, sym, ap, subst, ◌∙◌}
use mathlib.Core.Bool.{Bool, true, false, cond, ◌&&◌, and-false}
use mathlib.Core.List.{List, [], ◌∷◌, ◌++◌}
use native.Mathlib.Omega.{arith}
use lib.ListN.{length, get_or, take, drop, length-append, length-drop, take-append-drop, get_or-append}
use lib.Seq.{take-append_seam, drop-append-add, drop-length, drop-drop, get_or-drop, get_or_at, ext_get_or}
use lib.Dec.{eqb, ltb}
use borrow.Author.Tests.{eq-eqb, ne_eqb, eqb-true, le-ltb, ltb-true, ltb-false}
use Rattle.definition.proofs.RangeLaws.{listed_length, listed_at}
use Rattle.definition.proofs.PartLaws.{header_inside, part_due, part_whole, part_few, part_length, held_count, all_covered, rows_observed, steps_premised}
use Rattle.definition.specs.01-Words.{word, words}
use Rattle.definition.specs.02-Ranges.{listed, update}
use Rattle.definition.specs.03-Lists.{join_all}
use Rattle.definition.specs.11-Layout.{header_bytes, most_bytes, log_part, observer_part, step_part, premise_part, record_bytes, most_records, offset, size, end, count, part, records_in, due_offset, bad_length, orphans, is_misplaced, faulty_part}
use Rattle.definition.specs.18-Admission.{Parted}
use Rattle.definition.specs.44-Demands.{HeaderOfBytes}
use Rattle.definition.specs.19-Rewriting.{Contents, contents_of, pairs, laid_out, written, header_number, with_part, with_number}

-- Numbers in bytes, read back.
words_length : (ns : List ℕ) → length (words ns) ≡ 2 * length ns
unfolding words
words_length [] = refl
words_length (n ∷ ns) = let e = words_length ns in omega arith

word_back : (ns rest : List ℕ) (i : ℕ) → i < length ns → word (words ns ++ rest) (2 * i) ≡ get_or ns i 0
unfolding word words
word_back [] rest i h = absurd (omega arith)
word_back (n ∷ ns) rest zero h = omega arith
word_back (n ∷ ns) rest (suc i) h =
    let at : 2 * suc i ≡ suc (suc (2 * i)) = omega arith in
    let next : suc (suc (2 * i)) + 1 ≡ suc (suc (2 * i + 1)) = omega arith in
    rw (at, next) (word_back ns rest i (omega arith))

low_byte : (ns rest : List ℕ) (i : ℕ) → i < length ns → get_or (words ns ++ rest) (2 * i) 0 < 256
unfolding words
low_byte [] rest i h = absurd (omega arith)
low_byte (n ∷ ns) rest zero h = omega arith
low_byte (n ∷ ns) rest (suc i) h = let at : 2 * suc i ≡ suc (suc (2 * i)) = omega arith in rw at (low_byte ns rest i (omega arith))

-- The bytes of the parts before part p.
before : List (List ℕ) → ℕ → ℕ
before [] p = 0
before (x ∷ xs) zero = 0
before (x ∷ xs) (suc p) = length x + before xs p

before_next : (ps : List (List ℕ)) (p : ℕ) → before ps (suc p) ≡ before ps p + length (get_or ps p [])
unfolding before
before_next [] p = refl
before_next (x ∷ []) zero = omega arith
before_next (x ∷ y ∷ ps) zero = omega arith
before_next (x ∷ xs) (suc p) = let e = before_next xs p in omega arith

before_all : (ps : List (List ℕ)) (p : ℕ) → length ps ≤ p → before ps p ≡ length (join_all ps)
unfolding before join_all
before_all [] p h = refl
before_all (x ∷ xs) zero h = absurd (omega arith)
before_all (x ∷ xs) (suc p) h = let e = before_all xs p (omega arith) in rw (length-append x (join_all xs)) (omega arith)

before_most : (ps : List (List ℕ)) (p : ℕ) → before ps p ≤ length (join_all ps)
unfolding before join_all
before_most [] p = omega arith
before_most (x ∷ xs) zero = omega arith
before_most (x ∷ xs) (suc p) = let e = before_most xs p in rw (length-append x (join_all xs)) (omega arith)

pairs_length : (at : ℕ) (ps : List (List ℕ)) → length (pairs at ps) ≡ 2 * length ps
unfolding pairs
pairs_length at [] = refl
pairs_length at (p ∷ ps) = let e = pairs_length (at + length p) ps in omega arith

pair_offset : (at : ℕ) (ps : List (List ℕ)) (p : ℕ) → p < length ps → get_or (pairs at ps) (2 * p) 0 ≡ at + before ps p
unfolding pairs before
pair_offset at [] p h = absurd (omega arith)
pair_offset at (x ∷ xs) zero h = omega arith
pair_offset at (x ∷ xs) (suc p) h =
    let two : 2 * suc p ≡ suc (suc (2 * p)) = omega arith in
    let e = pair_offset (at + length x) xs p (omega arith) in
    rw two (e ∙ let r : at + length x + before xs p ≡ at + (length x + before xs p) = omega arith in r)

pair_size : (at : ℕ) (ps : List (List ℕ)) (p : ℕ) → p < length ps → get_or (pairs at ps) (2 * p + 1) 0 ≡ length (get_or ps p [])
unfolding pairs
pair_size at [] p h = absurd (omega arith)
pair_size at (x ∷ xs) zero h = refl
pair_size at (x ∷ xs) (suc p) h =
    let three : 2 * suc p + 1 ≡ suc (suc (2 * p + 1)) = omega arith in rw three (pair_size (at + length x) xs p (omega arith))

joined_part : (ps : List (List ℕ)) (p : ℕ) → p < length ps → take (length (get_or ps p [])) (drop (before ps p) (join_all ps)) ≡ get_or ps p []
unfolding before join_all
joined_part [] p h = absurd (omega arith)
joined_part (x ∷ xs) zero h = take-append_seam x (join_all xs)
joined_part (x ∷ xs) (suc p) h = rw (drop-append-add x (join_all xs) (before xs p)) (joined_part xs p (omega arith))

-- The numbers of the header that are no offset and no length: a file put together has them from what it is made of.
pub data Unpaired : ℕ → Type 0 where
  agent_number : Unpaired 0
  action_number : Unpaired 1
  hour_number : Unpaired 18

-- The parts are whole and few, which is what checks 1 and 2 ask of a file put together.
pub record Sized (c : Contents) : Type 0 where
  pub whole : (p : ℕ) → p < 8 → length (c.parts p) % record_bytes p ≡ 0
  pub few : (p : ℕ) → p < 8 → records_in (c.parts p) p ≤ most_records p
  pub observed : length (c.parts log_part) ≡ 0 → length (c.parts observer_part) ≡ 0
  pub premised : length (c.parts step_part) ≡ 0 → length (c.parts premise_part) ≡ 0

-- A file put together: its numbers, and its parts.
module _ (c : Contents) where
  abbrev all : List (List ℕ)
  all = listed c.parts 8 0

  abbrev numbers : List ℕ
  numbers = c.numbers 0 ∷ c.numbers 1 ∷ pairs header_bytes all ++ c.numbers 18 ∷ []

  eight_pairs : length (pairs header_bytes all) ≡ 16
  eight_pairs = let e = pairs_length header_bytes all in let n = listed_length c.parts 8 0 in omega arith

  numbers_length : length numbers ≡ 19
  numbers_length = let e = length-append (pairs header_bytes all) (c.numbers 18 ∷ []) in let n = eight_pairs in omega arith

  pub header_length : length (words numbers) ≡ header_bytes
  header_length = let e = words_length numbers in let n = numbers_length in omega arith

  of_part : (p : ℕ) → p < 8 → get_or all p [] ≡ c.parts p
  of_part p h = listed_at c.parts [] 8 0 p h ∙ ap c.parts (let e : 0 + p ≡ p = omega arith in e)

  number : (i : ℕ) → i < 19 → word (written c) (2 * i) ≡ get_or numbers i 0
  unfolding written laid_out
  number i h = word_back numbers (join_all all) i (let n = numbers_length in omega arith)

  -- Behind agent and action come the pairs' numbers, and behind those the hour.
  paired_number : (j : ℕ) → j < 16 → word (written c) (2 * suc (suc j)) ≡ get_or (pairs header_bytes all) j 0
  paired_number j h = number (suc (suc j)) (omega arith) ∙ get_or-append (pairs header_bytes all) (c.numbers 18 ∷ []) 0 j (let n = eight_pairs in omega arith)

  pub written_number : {i : ℕ} → Unpaired i → header_number (written c) i ≡ c.numbers i
  unfolding header_number
  written_number agent_number = number 0 (omega arith)
  written_number action_number = number 1 (omega arith)
  written_number hour_number = number 18 (omega arith) ∙ get_or_at (pairs header_bytes all) (c.numbers 18) [] 0 16 eight_pairs

  written_offset : (p : ℕ) → p < 8 → offset (written c) p ≡ header_bytes + before all p
  unfolding offset
  written_offset p h =
      let at : 4 * p + 4 ≡ 2 * suc (suc (2 * p)) = omega arith in
      let n = listed_length c.parts 8 0 in
      rw at (paired_number (2 * p) (omega arith) ∙ pair_offset header_bytes all p (omega arith))

  written_size : (p : ℕ) → p < 8 → size (written c) p ≡ length (c.parts p)
  unfolding size
  written_size p h =
      let at : 4 * p + 6 ≡ 2 * suc (suc (2 * p + 1)) = omega arith in
      let n = listed_length c.parts 8 0 in
      rw at (paired_number (2 * p + 1) (omega arith) ∙ pair_size header_bytes all p (omega arith) ∙ ap length (of_part p h))

  behind_header : (n : ℕ) → drop (header_bytes + n) (words numbers ++ join_all all) ≡ drop n (join_all all)
  behind_header n = ap (λ h. drop (h + n) (words numbers ++ join_all all)) (sym header_length) ∙ drop-append-add (words numbers) (join_all all) n

  pub written_part : (p : ℕ) → p < 8 → part (written c) p ≡ c.parts p
  unfolding part written laid_out
  written_part p h =
      let n = listed_length c.parts 8 0 in
      rw (written_offset p h, written_size p h, behind_header (before all p), ← of_part p h) (joined_part all p (omega arith))

  pub written_length : length (written c) ≡ header_bytes + length (join_all all)
  unfolding written laid_out
  written_length = length-append (words numbers) (join_all all) ∙ ap (λ n. n + length (join_all all)) header_length

  -- It passes checks 1 and 2 where its parts are whole and few.
  module _ (z : Sized c) where
    not_long : length (join_all all) ≤ most_bytes - header_bytes
    unfolding join_all listed records_in record_bytes most_records
    not_long =
        simp length-append
        (omega
        (arith, z.whole 0 (omega arith), z.few 0 (omega arith), z.whole 1 (omega arith), z.few 1 (omega arith), z.whole 2 (omega arith), z.few 2 (omega arith), z.whole 3 (omega arith), z.few 3 (omega arith), z.whole 4 (omega arith), z.few 4 (omega arith), z.whole 5 (omega arith), z.few 5 (omega arith), z.whole 6 (omega arith), z.few 6 (omega arith), z.whole 7 (omega arith), z.few 7 (omega arith)))

    written_end : (p : ℕ) → p < 8 → end (written c) p ≡ header_bytes + before all (suc p)
    unfolding end
    written_end p h =
        let e = before_next all p in
        rw (written_offset p h, written_size p h, ← of_part p h) (omega arith)

    written_due : (p : ℕ) → p < 8 → due_offset (written c) p ≡ offset (written c) p
    unfolding due_offset before listed
    written_due zero h = sym (written_offset zero h)
    written_due (suc p) h =
        let back : suc p - 1 ≡ p = omega arith in
        rw (ne_eqb (suc p) 0 (omega arith), back) (written_end p (omega arith) ∙ sym (written_offset (suc p) h))

    no_orphans : (p q : ℕ) → p < 8 → q < 8 → (length (c.parts p) ≡ 0 → length (c.parts q) ≡ 0) → orphans (written c) p q ≡ false
    unfolding orphans
    no_orphans p q h k none = rw (written_size p h, written_size q k) (go (eqb (length (c.parts p)) 0) refl)
      where
        go : (b : Bool) → eqb (length (c.parts p)) 0 ≡ b → b && ltb 0 (length (c.parts q)) ≡ false
        go true e = le-ltb 0 (length (c.parts q)) (omega (arith, none (eqb-true _ _ e)))
        go false e = refl

    ends_inside : (p : ℕ) → p < 8 → end (written c) p ≤ length (written c)
    ends_inside p h = omega (arith, written_end p h, written_length, before_most all (suc p))

    ends_file : (p : ℕ) → p < 8 → eqb p premise_part && ltb (end (written c) p) (length (written c)) ≡ false
    ends_file p h = go (eqb p premise_part) refl
      where
        go : (b : Bool) → eqb p premise_part ≡ b → b && ltb (end (written c) p) (length (written c)) ≡ false
        go false e = refl
        go true e =
            let last = eqb-true p premise_part e in
            le-ltb (end (written c) p) (length (written c)) (omega (arith, last, written_end p h, written_length, before_all all (suc p) (omega (arith, last, listed_length c.parts 8 0))))

    pub written_parted : Parted (written c)
    unfolding bad_length faulty_part is_misplaced count records_in
    written_parted =
        record {
          long = rw (written_length) (rw (le-ltb (header_bytes + length (join_all all)) header_bytes (omega arith), le-ltb most_bytes (header_bytes + length (join_all all)) (omega (arith, not_long))));
          sound =
              λ p h.
              rw
              (written_due p h, eq-eqb (offset (written c) p) (offset (written c) p) refl, written_size p h, eq-eqb (length (c.parts p) % record_bytes p) 0 (z.whole p h), le-ltb (most_records p) (length (c.parts p) / record_bytes p) (z.few p h), le-ltb (length (written c)) (end (written c) p) (ends_inside p h), ends_file p h, no_orphans log_part observer_part (omega arith) (omega arith) z.observed, no_orphans step_part premise_part (omega arith) (omega arith) z.premised, and-false (eqb p observer_part), and-false (eqb p premise_part));
        }

-- A file that checks 1 and 2 let pass has parts that are whole and few.
pub parted_sized : (s : List ℕ) → Parted s → Sized (contents_of s)
unfolding contents_of orphans
parted_sized s f =
    record {
      whole = λ p h. rw (part_length s f p h) (part_whole s f p h);
      few = λ p h. rw (held_count s f p h) (part_few s f p h);
      observed = λ e. none log_part observer_part (omega arith) (omega arith) (rows_observed s f) e;
      premised = λ e. none step_part premise_part (omega arith) (omega arith) (steps_premised s f) e;
    }
  where
    none : (p q : ℕ) → p < 8 → q < 8 → eqb (size s p) 0 && ltb 0 (size s q) ≡ false → length (part s p) ≡ 0 → length (part s q) ≡ 0
    none p q h k o e =
        let empty : size s p ≡ 0 = sym (part_length s f p h) ∙ e in
        part_length s f q k ∙ (let z = ltb-false 0 (size s q) (rw (eq-eqb (size s p) 0 empty) at o) in let g : size s q ≡ 0 = omega arith in g)

-- It is what it holds, put together, if it is made of bytes.
module _ (s : List ℕ) (f : Parted s) where
  abbrev again : List ℕ
  again = written (contents_of s)

  -- the parts lie side by side
  side_by_side : (p : ℕ) → p < 8 → drop (offset s p) s ≡ part s p ++ drop (end s p) s
  unfolding part end
  side_by_side p h =
      sym (take-append-drop (size s p) (drop (offset s p) s)) ∙ ap (λ (r : List ℕ). take (size s p) (drop (offset s p) s) ++ r) (drop-drop (size s p) (offset s p) s)

  parts_joined : (left p : ℕ) → p + left ≡ 8 → join_all (listed (part s) left p) ≡ drop (due_offset s p) s
  unfolding join_all listed due_offset
  parts_joined zero p h =
      let all : p ≡ 8 = omega arith in
      rw all (rw (all_covered s f) (sym (drop-length s)))
  parts_joined (suc left) p h =
      let back : p + 1 - 1 ≡ p = omega arith in
      let rest : join_all (listed (part s) left (p + 1)) ≡ drop (end s p) s = rw (ne_eqb (p + 1) 0 (omega arith), back) at (parts_joined left (p + 1) (omega arith)) in
      ap (λ r. part s p ++ r) rest ∙ sym (side_by_side p (omega arith)) ∙ ap (λ o. drop o s) (part_due s f p (omega arith))

  same_size : (p : ℕ) → p < 8 → size again p ≡ size s p
  unfolding contents_of
  same_size p h = written_size (contents_of s) p h ∙ part_length s f p h

  same_offset : (p : ℕ) → p < 8 → offset again p ≡ offset s p
  unfolding due_offset end
  same_offset zero h = sym (written_due (contents_of s) (parted_sized s f) zero h) ∙ sym (part_due s f zero h)
  same_offset (suc p) h =
      let back : suc p - 1 ≡ p = omega arith in
      let there = rw (ne_eqb (suc p) 0 (omega arith), back) at (written_due (contents_of s) (parted_sized s f) (suc p) h) in
      let own = rw (ne_eqb (suc p) 0 (omega arith), back) at (part_due s f (suc p) h) in
      sym there ∙ rw (same_offset p (omega arith), same_size p (omega arith)) (sym own)

  -- every number of the header is the same: the three, those of the pairs, and so all
  same_unpaired : {i : ℕ} → Unpaired i → word again (2 * i) ≡ word s (2 * i)
  unfolding header_number contents_of
  same_unpaired u = written_number (contents_of s) u

  same_paired : (j : ℕ) → j < 16 → word again (2 * suc (suc j)) ≡ word s (2 * suc (suc j))
  unfolding offset size
  same_paired j h =
      go (j % 2) refl
    where
      go : (r : ℕ) → j % 2 ≡ r → word again (2 * suc (suc j)) ≡ word s (2 * suc (suc j))
      go zero e = let at : 2 * suc (suc j) ≡ 4 * (j / 2) + 4 = omega arith in rw at (same_offset (j / 2) (omega arith))
      go (suc zero) e = let at : 2 * suc (suc j) ≡ 4 * (j / 2) + 6 = omega arith in rw at (same_size (j / 2) (omega arith))
      go (suc (suc r)) e = absurd (omega arith)

  same_number : (i : ℕ) → i < 19 → word again (2 * i) ≡ word s (2 * i)
  same_number zero h = same_unpaired agent_number
  same_number (suc zero) h = same_unpaired action_number
  same_number (suc (suc j)) h =
      go (ltb j 16) refl
    where
      go : (b : Bool) → ltb j 16 ≡ b → word again (2 * suc (suc j)) ≡ word s (2 * suc (suc j))
      go true e = same_paired j (ltb-true j 16 e)
      go false e = let past = ltb-false j 16 e in let at : j ≡ 16 = omega arith in rw at (same_unpaired hour_number)

  pub again_length : length again ≡ length s
  unfolding due_offset contents_of
  again_length = rw (written_length (contents_of s), parts_joined 8 0 refl) (let e = length-drop header_bytes s in let h = header_inside s f in omega arith)

  pub behind_same : (i : ℕ) → header_bytes ≤ i → get_or again i 0 ≡ get_or s i 0
  unfolding written laid_out due_offset contents_of
  behind_same i h =
      let at : header_bytes + (i - header_bytes) ≡ i = omega arith in
      let head = header_length (contents_of s) in
      let there = get_or-drop header_bytes again (i - header_bytes) 0 in
      let own = get_or-drop header_bytes s (i - header_bytes) 0 in
      rw at at (sym there ∙ ap (λ (r : List ℕ). get_or r (i - header_bytes) 0) (ap (λ n. drop n again) (let z : header_bytes ≡ header_bytes + 0 = omega arith in z) ∙ behind_header (contents_of s) 0 ∙ parts_joined 8 0 refl) ∙ own)

  module _ (bytes : HeaderOfBytes s) where
    pub same_byte : (i : ℕ) → get_or again i 0 ≡ get_or s i 0
    unfolding word written laid_out
    same_byte i = go (ltb i header_bytes) refl
      where
        low : (j : ℕ) → j < 19 → (get_or again (2 * j) 0 ≡ get_or s (2 * j) 0) × (get_or again (2 * j + 1) 0 ≡ get_or s (2 * j + 1) 0)
        low j k =
            let same = same_number j k in
            let a = low_byte (numbers (contents_of s)) (join_all (all (contents_of s))) j (let n = numbers_length (contents_of s) in omega arith) in
            let b = bytes (2 * j) (omega arith) in
            (omega arith, omega arith)

        even : i < header_bytes → (r : ℕ) → i % 2 ≡ r → get_or again i 0 ≡ get_or s i 0
        even k zero e = let at : 2 * (i / 2) ≡ i = omega arith in rw at at (low (i / 2) (omega arith)).0
        even k (suc zero) e = let at : 2 * (i / 2) + 1 ≡ i = omega arith in rw at at (low (i / 2) (omega arith)).1
        even k (suc (suc r)) e = absurd (omega arith)

        go : (b : Bool) → ltb i header_bytes ≡ b → get_or again i 0 ≡ get_or s i 0
        go true e = even (ltb-true i header_bytes e) (i % 2) refl
        go false e = behind_same i (ltb-false i header_bytes e)

    pub written_again : written (contents_of s) ≡ s
    written_again = ext_get_or 0 again s again_length (λ i h. same_byte i)

-- What stays in the file with a part in place of its own, and that part.
module _ (s : List ℕ) (p : ℕ) (b : List ℕ) where
  pub with_part_number : {i : ℕ} → Unpaired i → header_number (with_part s p b) i ≡ header_number s i
  unfolding with_part
  with_part_number u = written_number _ u

  pub with_part_own : p < 8 → part (with_part s p b) p ≡ b
  unfolding with_part update
  with_part_own h = written_part _ p h ∙ rw (eq-eqb p p refl)

  pub with_part_other : (q : ℕ) → q < 8 → (q ≡ p → ⊥) → part (with_part s p b) q ≡ part s q
  unfolding with_part update
  with_part_other q h n = written_part _ q h ∙ rw (ne_eqb q p n)

  -- Checks 1 and 2 let it pass if the file was let pass, the part is whole and has no more records than it may, and no observers or premises are left alone.
  pub with_part_parted :
      Parted s → length b % record_bytes p ≡ 0 → records_in b p ≤ most_records p →
      (length (update (part s) p b log_part) ≡ 0 → length (update (part s) p b observer_part) ≡ 0) →
      (length (update (part s) p b step_part) ≡ 0 → length (update (part s) p b premise_part) ≡ 0) → Parted (with_part s p b)
  unfolding with_part contents_of update
  with_part_parted f whole few observed premised =
      let z = parted_sized s f in
      written_parted _
      (record {
        whole = λ q h. go (λ r x. length x % record_bytes r ≡ 0) q (z.whole q h) whole (eqb q p) refl;
        few = λ q h. go (λ r x. records_in x r ≤ most_records r) q (z.few q h) few (eqb q p) refl;
        observed = observed;
        premised = premised;
      })
    where
      go : (P : ℕ → List ℕ → Type 0) (q : ℕ) → P q (part s q) → P p b → (y : Bool) → eqb q p ≡ y → P q (cond y b (part s q))
      go P q own new true e = subst (λ r. P r b) (sym (eqb-true q p e)) new
      go P q own new false e = own

  -- So where it is as long as the one before.
  pub with_part_as_long : Parted s → p < 8 → length b ≡ length (part s p) → Parted (with_part s p b)
  unfolding contents_of records_in update
  with_part_as_long f h same =
      let z = parted_sized s f in
      with_part_parted f (rw same (z.whole p h)) (rw same (z.few p h)) (λ e. sizes observer_part ∙ z.observed (sym (sizes log_part) ∙ e)) (λ e. sizes premise_part ∙ z.premised (sym (sizes step_part) ∙ e))
    where
      sizes : (q : ℕ) → length (update (part s) p b q) ≡ length (part s q)
      sizes q = go (eqb q p) refl
        where
          go : (y : Bool) → eqb q p ≡ y → length (cond y b (part s q)) ≡ length (part s q)
          go true e = same ∙ ap (λ r. length (part s r)) (sym (eqb-true q p e))
          go false e = refl

-- In the file with another number in the header all parts stay, and the other numbers; and checks 1 and 2 let it pass if they let the file pass.
module _ (s : List ℕ) (i n : ℕ) where
  pub with_number_part : (p : ℕ) → p < 8 → part (with_number s i n) p ≡ part s p
  unfolding with_number
  with_number_part p h = written_part _ p h

  pub with_number_own : Unpaired i → header_number (with_number s i n) i ≡ n
  unfolding with_number update
  with_number_own u = written_number _ u ∙ rw (eq-eqb i i refl)

  pub with_number_other : {j : ℕ} → Unpaired j → (j ≡ i → ⊥) → header_number (with_number s i n) j ≡ header_number s j
  unfolding with_number update
  with_number_other {j} u o = written_number _ u ∙ rw (ne_eqb j i o)

  pub with_number_parted : Parted s → Parted (with_number s i n)
  unfolding with_number contents_of
  with_number_parted f = let z = parted_sized s f in written_parted _ (record { whole = z.whole; few = z.few; observed = z.observed; premised = z.premised })
