-- The part of a table from a place on: what is lent, and the table when other entries came back. Assumes nothing.
use Prim.Native.Nat.{ℕ, ◌-◌, ◌≤◌}
use mathlib.Core.Path.{◌≡◌, ap, ◌∙◌}
use mathlib.Core.List.{List, ◌++◌, append-nil}
use native.Mathlib.Omega.{arith}
use lib.ListN.{length, take, drop, length-drop}
use lib.Seq.{take_all, drop-length}
use borrow.Rule.Slice.PartMut.{mid_of, put_mid, Post-is}

pub lent_part : (d : ℕ) (l : List ℕ) → mid_of d (length l - d) l ≡ drop d l
lent_part d l = take_all (length l - d) (drop d l) (omega (arith, length-drop d l))

pub part_back : (d : ℕ) (l after : List ℕ) → d ≤ length l → put_mid d (length l - d) l after ≡ take d l ++ after
part_back d l after le = ap (λ (x : List ℕ). take d l ++ (after ++ x)) (Post-is d (length l) l le ∙ drop-length l) ∙ ap (λ (x : List ℕ). take d l ++ x) (append-nil after)
