-- What is made of one number after another.
use Rattle.std.proofs.Common.{◌≡◌, ℕ, zero, suc, ◌+◌, ◌-◌, ◌≤◌, List, [], ◌∷◌, ◌++◌, sym, ap, ◌∙◌, arith, append_assoc}
use Rattle.std.specs.Prelude.{fold, flat_map, codes, Result, Ok, Err, OnOk}
use Rattle.std.specs.List.{range_with_len}
use Rattle.std.proofs.lemmas.Grind.{flat_map-append}
use Rattle.std.proofs.lemmas.List.Sums.{fold-append}
use Rattle.std.proofs.lemmas.List.{append-nil}
use Rattle.outside.specs.declared.files.FileBytes.{FileBytes}
use Rattle.outside.specs.Folder.{appended}
use Rattle.channel_gen.specs.MadeChannel.{numbers_to, call_text, files_of, with_file, manifest, main_file, made_files}

range_more : (a n : ℕ) → range_with_len a (suc n) ≡ range_with_len a n ++ (a + n) ∷ []
range_more a zero = ap (λ x. x ∷ []) (omega arith)
range_more a (suc n) = ap (λ l. a ∷ l) (range_more (a + 1) n ∙ ap (λ x. range_with_len (a + 1) n ++ x ∷ []) (omega arith))

-- one number further
numbers_more : (k : ℕ) → 1 ≤ k → numbers_to k ≡ numbers_to (k - 1) ++ k ∷ []
numbers_more zero h = absurd (omega (arith, h))
numbers_more (suc n) h =
    let last : 1 + n ≡ suc n = omega arith in
    let before : n ≡ suc n - 1 = omega arith in
    range_more 1 n ∙ ap (λ x. numbers_to n ++ x ∷ []) last ∙ ap (λ m. numbers_to m ++ suc n ∷ []) before

flat_more : {X : Type 0} (f : ℕ → List X) (k : ℕ) → 1 ≤ k → flat_map f (numbers_to (k - 1)) ++ f k ≡ flat_map f (numbers_to k)
flat_more f k h =
    ap (λ l. flat_map f (numbers_to (k - 1)) ++ l) (sym (append-nil (f k)))
    ∙ sym (flat_map-append f (numbers_to (k - 1)) (k ∷ [])) ∙ ap (flat_map f) (sym (numbers_more k h))

flat_to : {X : Type 0} (f : ℕ → List X) (k size : ℕ) → k ≡ size + 1 → flat_map f (numbers_to (k - 1)) ≡ flat_map f (numbers_to size)
flat_to f k size is = ap (λ n. flat_map f (numbers_to n)) (omega (arith, is))

-- ---- the calls of main

pub text_more : (head old new : List ℕ) (k : ℕ) → old ≡ head ++ flat_map call_text (numbers_to (k - 1)) → new ≡ old ++ call_text k → 1 ≤ k
    → new ≡ head ++ flat_map call_text (numbers_to ((k + 1) - 1))
text_more head old new k before after h =
    after ∙ ap (λ l. l ++ call_text k) before ∙ append_assoc head (flat_map call_text (numbers_to (k - 1))) (call_text k)
    ∙ ap (λ l. head ++ l) (flat_more call_text k h) ∙ ap (λ n. head ++ flat_map call_text (numbers_to n)) (omega arith)

pub text_all : (head text : List ℕ) (k size : ℕ) → text ≡ head ++ flat_map call_text (numbers_to (k - 1)) → k ≡ size + 1 → text ≡ head ++ flat_map call_text (numbers_to size)
text_all head text k size is end = is ∙ ap (λ l. head ++ l) (flat_to call_text k size end)

-- ---- the files of the numbers

abbrev with_all : List FileBytes → ℕ → List FileBytes
with_all files n = fold with_file files (flat_map files_of (numbers_to n))

pub files_more : (head old new : List FileBytes) (k : ℕ) → old ≡ fold with_file head (flat_map files_of (numbers_to (k - 1)))
    → new ≡ fold with_file old (files_of k) → 1 ≤ k → new ≡ fold with_file head (flat_map files_of (numbers_to ((k + 1) - 1)))
files_more head old new k before after h =
    let next : k ≡ (k + 1) - 1 = omega arith in
    after ∙ ap (λ l. fold with_file l (files_of k)) before
    ∙ sym (fold-append with_file head (flat_map files_of (numbers_to (k - 1))) (files_of k))
    ∙ ap (fold with_file head) (flat_more files_of k h) ∙ ap (λ n. with_all head n) next

pub files_all : (head files : List FileBytes) (k size : ℕ) → files ≡ fold with_file head (flat_map files_of (numbers_to (k - 1))) → k ≡ size + 1
    → files ≡ fold with_file head (flat_map files_of (numbers_to size))
files_all head files k size is end = is ∙ ap (fold with_file head) (flat_to files_of k size end)

pub whole_folder : (size : ℕ) (first numbered whole : List FileBytes) → first ≡ with_file [] manifest → numbered ≡ fold with_file first (flat_map files_of (numbers_to size))
    → whole ≡ with_file numbered (main_file size) → whole ≡ made_files size
whole_folder size first numbered whole start more end =
    end ∙ ap (λ l. with_file l (main_file size)) (more ∙ ap (λ l. with_all l size) start)
    ∙ sym (fold-append with_file (with_file [] manifest) (flat_map files_of (numbers_to size)) (main_file size ∷ []))

-- ---- the lines of the script

abbrev rounds : ℕ → List ℕ
rounds n = flat_map (λ k. codes "round 4000\n") (numbers_to n)

pub script_more : (old new : List ℕ) (k : ℕ) → old ≡ flat_map (λ k. codes "round 4000\n") (numbers_to k) → new ≡ old ++ codes "round 4000\n"
    → new ≡ flat_map (λ k. codes "round 4000\n") (numbers_to (k + 1))
script_more old new k before after =
    let next : k ≡ (k + 1) - 1 = omega arith in
    after ∙ ap (λ l. l ++ codes "round 4000\n") (before ∙ ap rounds next) ∙ flat_more (λ n. codes "round 4000\n") (k + 1) (omega arith)

pub script_all : (script : List ℕ) (k n : ℕ) → script ≡ flat_map (λ k. codes "round 4000\n") (numbers_to k) → k ≡ n
    → script ≡ flat_map (λ k. codes "round 4000\n") (numbers_to n)
script_all script k n is end = is ∙ ap rounds end

-- ---- one file

pub added : {T E : Type 0} (r : Result T E) (old new : List FileBytes) (path bytes : List ℕ) (file : FileBytes) → OnOk r (new ≡ appended path bytes old)
    → path ≡ file.path → bytes ≡ file.bytes → OnOk r (new ≡ with_file old file)
added (Ok x) old new path bytes file is at holds = is ∙ ap (λ p. appended p bytes old) at ∙ ap (λ b. appended file.path b old) holds
added (Err e) old new path bytes file is at holds = is
