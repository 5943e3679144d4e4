-- The code of a function as it grows at its end.
use Rattle.std.proofs.Common.{◌≡◌, ℕ, zero, suc, ◌+◌, ◌-◌, ◌<◌, ◌≤◌, List, [], ◌∷◌, ◌++◌, length, take, drop, reverse, get_or, Some, refl, sym, ap, ◌∙◌, append_assoc, arith, subst, length-append}
use Rattle.std.specs.Prelude.{slice_get}
use Rattle.std.proofs.lemmas.List.{append-nil, take_more, get_or-reverse, length-reverse, take_all}
use Rattle.brs_code.specs.declared.function.Function.{Function}
use Rattle.brs_code.specs.declared.function.Mark.{Mark}
use Rattle.brs_code.specs.declared.function.Parameter.{Parameter}
use Rattle.brs_code.specs.declared.instr.Instr.{Instr}
use Rattle.brs_code.specs.declared.instr.Instr.TheVariants as i
use Rattle.brs_code.specs.declared.instr.Placed.{Placed}
use Rattle.code_drafts.specs.declared.draft.Draft.{Draft, out-Draft}
use Rattle.code_drafts.specs.declared.draft.DraftParameter.{DraftParameter}
use Rattle.lowering_parts.specs.declared.tables.Tables.{Tables}
use Rattle.lowering_parts.specs.Operands.{after}
use Rattle.lowering_parts.specs.Places.{at_place, with_index}
use Rattle.lowering_parts.specs.Names.{AreDistinct}
use Rattle.brs_code.specs.declared.function.ValueType.{ValueType}
use Rattle.code_drafts.specs.declared.draft.Draft.TheOpen as opened
use Rattle.code_drafts.specs.declared.draft.Draft.TheOpen.{Draft-F}
use Rattle.code_lowering.specs.Lowered.{Begins, Grows, Reads, ParameterOf, ParametersOf, Stands, OneAt, plain, slot, word, words, marks, function, CodeOf, end, next, Codes, FunctionHead, FunctionOf, function_of, NamedOf, named_of, FileOf, none, next_function}
use Rattle.code_lowering.proofs.Growing.{begins_self, begins_same, begins_with, begins_on, begins_get, begins_behind, begins_range, reads_on}

-- ---- one more

pub code_snoc : (all : List Function) (f : Function) (p n o : ℕ) (ds : List Draft) (q m r : ℕ) (d : Draft) (k s : ℕ) → CodeOf all f p n o ds q m r → OneAt all f q m r (out-Draft d) k s → CodeOf all f p n o (ds ++ d ∷ []) (q + 1) k s
code_snoc all f p n o [] q m r d k s end one = next k s one end
code_snoc all f p n o (x ∷ ds) q m r d k s (next i j first rest) one = next i j first (code_snoc all f (p + 1) i j ds q m r d k s rest one)

pub parameters_snoc : (names : List (List ℕ)) (size : ℕ) (ds : List DraftParameter) (xs : List Parameter) (d : DraftParameter) (x : Parameter) → ParametersOf names size ds xs → ParameterOf names size d x → ParametersOf names size (ds ++ d ∷ []) (xs ++ x ∷ [])
parameters_snoc names size [] [] d x had one = (one, tt)
parameters_snoc names size [] (y ∷ ys) d x had one = absurd had
parameters_snoc names size (e ∷ ds) [] d x had one = absurd had
parameters_snoc names size (e ∷ ds) (y ∷ ys) d x had one = (had.0, parameters_snoc names size ds ys d x had.1 one)

-- a list from its last element on, one more
pub back_more : {A : Type 0} (xs : List A) (i k : ℕ) (x : A) → i < length xs → k ≡ length xs - 1 - i → x ≡ get_or xs k x → take (i + 1) (reverse xs) ≡ take i (reverse xs) ++ x ∷ []
back_more xs i k x h at is =
    let l : length (reverse xs) ≡ length xs = length-reverse xs in
    let j : i < length (reverse xs) = omega arith in
    let here : get_or (reverse xs) i x ≡ x = get_or-reverse xs i x h ∙ ap (λ n. get_or xs n x) (sym at) ∙ sym is in
    take_more (reverse xs) i x j ∙ ap (λ y. take i (reverse xs) ++ y ∷ []) here

pub back_all : {A : Type 0} (xs : List A) (i : ℕ) → length xs ≤ i → take i (reverse xs) ≡ reverse xs
back_all xs i h =
    let l : length (reverse xs) ≡ length xs = length-reverse xs in
    take_all i (reverse xs) (omega arith)

-- ---- one instruction

-- an instruction with its line and its operands
abbrev pub stood : Instr → (line o : ℕ) → Placed
stood x line o = record { instr = x; line = line; operands = o }

same_stood : (x : Placed) (y : Instr) (line o : ℕ) → x.instr ≡ y → x.line ≡ line → x.operands ≡ o → x ≡ stood y line o
same_stood x y line o a b c = ap (λ i. stood i x.line x.operands) a ∙ ap (λ l. stood y l x.operands) b ∙ ap (λ k. stood y line k) c

stands_at : (f : Function) (p o : ℕ) (x : Placed) (y : Instr) (line : ℕ) → x.instr ≡ y → x.line ≡ line → x.operands ≡ o → slice_get f.code p ≡ Some x → Stands f p o y line (after x.instr o)
stands_at f p o x y line a b c h = record { has = h ∙ ap Some (same_stood x y line o a b c); leaves = ap (λ i. after i o) a }

pub plain_at : (all : List Function) (f : Function) (p n o line : ℕ) (y : Instr) (x : Placed) → x.instr ≡ at_place p y → x.line ≡ line → x.operands ≡ o → slice_get f.code p ≡ Some x
    → OneAt all f p n o (opened.Plain y line) n (after x.instr o)
plain_at all f p n o line y x a b c h = plain (stands_at f p o x (at_place p y) line a b c h)

pub slot_at : (all : List Function) (t : Tables) (f : Function) (p n o line k : ℕ) (y : Instr) (name : List ℕ) (x : Placed) → slice_get t.slots k ≡ Some name → Reads t f → x.instr ≡ with_index k (at_place p y) → x.line ≡ line → x.operands ≡ o
    → slice_get f.code p ≡ Some x → OneAt all f p n o (opened.Slot y line name) n (after x.instr o)
slot_at all t f p n o line k y name x e r a b c h = slot k (begins_get t.slots f.names k name r.names e) (stands_at f p o x (with_index k (at_place p y)) line a b c h)

pub word_at : (all : List Function) (t u : Tables) (f : Function) (p n o line k : ℕ) (y : Instr) (text : List ℕ) (x : Placed) → k ≡ length t.texts → u ≡ record t { texts = t.texts ++ text ∷ [] } → Reads u f → x.instr ≡ with_index k (at_place p y) → x.line ≡ line
    → x.operands ≡ o → slice_get f.code p ≡ Some x → OneAt all f p n o (opened.Word y line text) n (after x.instr o)
word_at all t u f p n o line k y text x e g r a b c h =
    let more : Begins (List ℕ) (t.texts ++ text ∷ []) f.texts = subst (λ (w : Tables). Begins (List ℕ) w.texts f.texts) g r.texts in
    word k (ap (slice_get f.texts) e ∙ begins_behind t.texts f.texts text more) (stands_at f p o x (with_index k (at_place p y)) line a b c h)

within : {A : Type 0} (xs ws ys : List A) (k : ℕ) → k ≡ length xs → Begins A (xs ++ ws) ys → k + length ws ≤ length ys
within xs ws ys k e b =
    let whole : length ys ≡ length (xs ++ ws) + length b.more = ap length b.is ∙ length-append (xs ++ ws) b.more in
    let front : length (xs ++ ws) ≡ length xs + length ws = length-append xs ws in
    omega (arith, whole, front, e)

pub words_at : (all : List Function) (t u : Tables) (f : Function) (p n o line k : ℕ) (y : Instr) (texts : List (List ℕ)) (x : Placed) → k ≡ length t.texts → u ≡ record t { texts = t.texts ++ texts } → Reads u f → x.instr ≡ with_index k (at_place p y)
    → x.line ≡ line → x.operands ≡ o → slice_get f.code p ≡ Some x → OneAt all f p n o (opened.Words y line texts) n (after x.instr o)
words_at all t u f p n o line k y texts x e g r a b c h =
    let more : Begins (List ℕ) (t.texts ++ texts) f.texts = subst (λ (w : Tables). Begins (List ℕ) w.texts f.texts) g r.texts in
    words k (ap (λ j. take (length texts) (drop j f.texts)) e ∙ begins_range t.texts texts f.texts more) (within t.texts texts f.texts k e more) (stands_at f p o x (with_index k (at_place p y)) line a b c h)

pub marks_at : (all : List Function) (t u : Tables) (f : Function) (p n o line k : ℕ) (y : Instr) (ms : List Mark) (x : Placed) → k ≡ length t.marks → u ≡ record t { marks = t.marks ++ ms } → Reads u f → x.instr ≡ with_index k (at_place p y)
    → x.line ≡ line → x.operands ≡ o → slice_get f.code p ≡ Some x → OneAt all f p n o (opened.Marks y line ms) n (after x.instr o)
marks_at all t u f p n o line k y ms x e g r a b c h =
    let more : Begins Mark (t.marks ++ ms) f.marks = subst (λ (w : Tables). Begins Mark w.marks f.marks) g r.marks in
    marks k (ap (λ j. take (length ms) (drop j f.marks)) e ∙ begins_range t.marks ms f.marks more) (within t.marks ms f.marks k e more) (stands_at f p o x (with_index k (at_place p y)) line a b c h)

-- ---- the loop over a function's code

pub body_more : (first file file' : List Function) (t t' : Tables) (list list' : List Placed) (code : List Draft) (i k : ℕ) (d : Draft) (one : Placed) (o o' : ℕ) → i < length code → k ≡ length code - 1 - i → d ≡ get_or code k d
    → length list ≡ i → ((all : List Function) (f : Function) → Begins Function file all → Reads t f → Begins Placed list f.code → CodeOf all f 0 (length first) 0 (take i (reverse code)) i (length file) o)
    → Grows t t' → Begins Function file file' → ((all : List Function) (f : Function) → Begins Function file' all → Reads t' f → slice_get f.code i ≡ Some one → OneAt all f i (length file) o (out-Draft d) (length file') (after one.instr o))
    → o' ≡ after one.instr o → list' ≡ list ++ one ∷ []
    → (all : List Function) (f : Function) → Begins Function file' all → Reads t' f → Begins Placed list' f.code → CodeOf all f 0 (length first) 0 (take (i + 1) (reverse code)) (i + 1) (length file') o'
body_more first file file' t t' list list' code i k d one o o' h at is count was grows begins stands left new all f b r c =
    let here : slice_get f.code i ≡ Some one = ap (slice_get f.code) (sym count) ∙ begins_behind list f.code one (subst (λ l. Begins Placed l f.code) new c) in
    let front = was all f (begins_on file file' all begins b) (reads_on t t' f grows r) (begins_on list list' f.code (begins_with list (one ∷ []) list' new) c) in
    let whole = code_snoc all f 0 (length first) 0 (take i (reverse code)) i (length file) o d (length file') (after one.instr o) front (stands all f b r here) in
    subst (λ l. CodeOf all f 0 (length first) 0 l (i + 1) (length file') o') (sym (back_more code i k d h at is))
    (subst (λ s. CodeOf all f 0 (length first) 0 (take i (reverse code) ++ d ∷ []) (i + 1) (length file') s) (sym left) whole)

-- ---- the functions of a file

pub file_snoc : (all : List Function) (n : ℕ) (ds : List Draft) (fs : List Function) (m : ℕ) (d : Draft) (f : Function) (k : ℕ) → FileOf all n ds fs m → NamedOf all m (out-Draft d) f k → FileOf all n (ds ++ d ∷ []) (fs ++ f ∷ []) k
file_snoc all n [] (y ∷ fs) m d f k a one = elim a [ ]
file_snoc all n (x ∷ ds) [] m d f k a one = elim a [ ]
file_snoc all n [] [] m d f k none one = next_function k one none
file_snoc all n (x ∷ ds) (y ∷ fs) m d f k (next_function j first rest) one = next_function j first (file_snoc all j ds fs m d f k rest one)

-- ---- the loop over parameters

pub parameters_more : (size : ℕ) (all : List DraftParameter) (t t' : Tables) (xs xs' : List Parameter) (i k : ℕ) (d : DraftParameter) (x : Parameter) → i < length all → k ≡ length all - 1 - i → d ≡ get_or all k d
    → ((names : List (List ℕ)) → Begins (List ℕ) t.slots names → ParametersOf names size (take i (reverse all)) xs) → Grows t t' → slice_get t'.slots x.slot ≡ Some d.name → x.kind ≡ d.kind → x.entry ≡ size - d.after → xs' ≡ xs ++ x ∷ []
    → (names : List (List ℕ)) → Begins (List ℕ) t'.slots names → ParametersOf names size (take (i + 1) (reverse all)) xs'
parameters_more size all t t' xs xs' i k d x h at is was grows stands kind entry new names b =
    let one : ParameterOf names size d x = record { slot = begins_get t'.slots names x.slot d.name b stands; kind = kind; entry = entry } in
    let whole = parameters_snoc names size (take i (reverse all)) xs d x (was names (begins_on t.slots t'.slots names grows.slots b)) one in
    subst (λ l. ParametersOf names size l xs') (sym (back_more all i k d h at is)) (subst (λ l. ParametersOf names size (take i (reverse all) ++ d ∷ []) l) (sym new) whole)

-- ---- functions

pub function_made : (all : List Function) (n m o line needed size : ℕ) (ps : List DraftParameter) (value : ValueType) (code : List Draft) (f : Function) → CodeOf all f 0 n 0 (reverse code) (length code) m o → FunctionHead line ps needed value size (length code) f
    → FunctionOf all n line ps needed value size code f m
function_made all n m o line needed size ps value code f c h = function_of o c h

pub parameters_done : (size : ℕ) (all : List DraftParameter) (t : Tables) (xs : List Parameter) (i : ℕ) → length all ≤ i → ((names : List (List ℕ)) → Begins (List ℕ) t.slots names → ParametersOf names size (take i (reverse all)) xs)
    → (names : List (List ℕ)) → Begins (List ℕ) t.slots names → ParametersOf names size (reverse all) xs
parameters_done size all t xs i h was names b = subst (λ l. ParametersOf names size l xs) (back_all all i h) (was names b)

-- the whole code of a function
pub body_done : (first file : List Function) (t : Tables) (list : List Placed) (code : List Draft) (i o : ℕ) → length code ≤ i → i ≤ length code
    → ((all : List Function) (f : Function) → Begins Function file all → Reads t f → Begins Placed list f.code → CodeOf all f 0 (length first) 0 (take i (reverse code)) i (length file) o)
    → (all : List Function) (f : Function) → Begins Function file all → Reads t f → Begins Placed list f.code → Codes all f (length first) (reverse code) (length code) (length file)
body_done first file t list code i o h k was all f b r c =
    let at : i ≡ length code = omega arith in
    record {
      leaves = o;
      code = subst (λ j. CodeOf all f 0 (length first) 0 (reverse code) j (length file) o) at
          (subst (λ l. CodeOf all f 0 (length first) 0 l i (length file) o) (back_all code i h) (was all f b r c));
    }

-- what an instruction is, told by its draft
pub drafted : (all : List Function) (f : Function) (p n o : ℕ) (d : Draft) (x : Draft-F Draft) (m r : ℕ) → out-Draft d ≡ x → OneAt all f p n o x m r → OneAt all f p n o (out-Draft d) m r
drafted all f p n o d x m r e h = subst (λ y. OneAt all f p n o y m r) (sym e) h

pub function_at : (first file file' : List Function) (p o line needed size k : ℕ) (ps : List DraftParameter) (value : ValueType) (code : List Draft) (g : Function) (x : Placed)
    → ((all : List Function) → Begins Function file all → FunctionOf all (length first) line ps needed value size code g (length file))
    → k ≡ length file → file' ≡ file ++ g ∷ [] → x.instr ≡ i.Function k → x.line ≡ line → x.operands ≡ o → (all : List Function) (f : Function) → Begins Function file' all → slice_get f.code p ≡ Some x
    → OneAt all f p (length first) o (opened.Function line ps needed value size code) (length file') (after x.instr o)
function_at first file file' p o line needed size k ps value code g x made at new a b c all f begins h =
    let more : Begins Function (file ++ g ∷ []) all = subst (λ l. Begins Function l all) new begins in
    let z : length file + 1 ≡ length file' = sym (ap length new ∙ length-append file (g ∷ [])) in
    function g (length file) (length file') (made all (begins_on file (file ++ g ∷ []) all (begins_with file (g ∷ []) (file ++ g ∷ []) refl) more)) (begins_behind file all g more) z
    (stands_at f p o x (i.Function (length file)) line (a ∙ ap i.Function at) b c h)

-- a function that is put together
pub function_whole : (first file : List Function) (t u : Tables) (list : List Placed) (ps : List DraftParameter) (code : List Draft) (line needed size : ℕ) (value : ValueType) (g : Function)
    → ((names : List (List ℕ)) → Begins (List ℕ) t.slots names → ParametersOf names (length code) (reverse ps) g.parameters) → Grows t u
    → ((all : List Function) (f : Function) → Begins Function file all → Reads u f → Begins Placed list f.code → Codes all f (length first) (reverse code) (length code) (length file))
    → length list ≡ length code → g.names ≡ u.slots → AreDistinct g.names → g.texts ≡ u.texts → g.marks ≡ u.marks → g.code ≡ list → g.line ≡ line → g.needed ≡ needed → g.value ≡ value → g.start ≡ length code - size → g.first ≡ 0
    → (all : List Function) → Begins Function file all → FunctionOf all (length first) line ps needed value size code g (length file)
function_whole first file t u list ps code line needed size value g parameters grows stands count names distinct texts marked placed line_is needs value_is start at_first all b =
    let reads : Reads u g = record { names = begins_same u.slots g.names names; texts = begins_same u.texts g.texts texts; marks = begins_same u.marks g.marks marked } in
    let codes = stands all g b reads (begins_same list g.code placed) in
    let named : ParametersOf g.names (length code) (reverse ps) g.parameters = parameters g.names (begins_on t.slots u.slots g.names grows.slots (begins_same u.slots g.names names)) in
    function_of codes.leaves codes.code (record {
      line_is = line_is;
      needs = needs;
      value_is = value_is;
      start_is = start;
      first_is = at_first;
      ends = ap length placed ∙ count;
      distinct = distinct;
      parameters_are = named;
    })

-- one more function of a file
pub file_more : (drafts : List Draft) (i : ℕ) (d : Draft) (file file' named named' : List Function) (g : Function) → i < length drafts → d ≡ get_or drafts i d
    → ((all : List Function) → Begins Function file all → FileOf all 0 (take i drafts) named (length file)) → Begins Function file file' → ((all : List Function) → Begins Function file' all → NamedOf all (length file) (out-Draft d) g (length file'))
    → named' ≡ named ++ g ∷ [] → (all : List Function) → Begins Function file' all → FileOf all 0 (take (i + 1) drafts) named' (length file')
file_more drafts i d file file' named named' g h is was grows made new all b =
    let whole = file_snoc all 0 (take i drafts) named (length file) d g (length file') (was all (begins_on file file' all grows b)) (made all b) in
    subst (λ l. FileOf all 0 l named' (length file')) (sym (take_more drafts i d h ∙ ap (λ y. take i drafts ++ y ∷ []) (sym is)))
    (subst (λ l. FileOf all 0 (take i drafts ++ d ∷ []) l (length file')) (sym new) whole)

pub file_done : (drafts : List Draft) (i : ℕ) (file named : List Function) → length drafts ≤ i → ((all : List Function) → Begins Function file all → FileOf all 0 (take i drafts) named (length file)) → FileOf file 0 drafts named (length file)
file_done drafts i file named h was = subst (λ l. FileOf file 0 l named (length file)) (take_all i drafts h) (was file (begins_self file))

-- an instruction that names nothing, told by its draft
pub plain_drafted : (p o line n : ℕ) (y : Instr) (d : Draft) (x : Placed) → out-Draft d ≡ opened.Plain y line → x.instr ≡ at_place p y → x.line ≡ line → x.operands ≡ o → (all : List Function) (f : Function) → slice_get f.code p ≡ Some x
    → OneAt all f p n o (out-Draft d) n (after x.instr o)
plain_drafted p o line n y d x e a b c all f h = drafted all f p n o d (opened.Plain y line) n (after x.instr o) e (plain_at all f p n o line y x a b c h)

-- a function of a file, told by its draft
pub named_drafted : (first file : List Function) (d : Draft) (line needed size : ℕ) (ps : List DraftParameter) (value : ValueType) (code : List Draft) (g : Function) → out-Draft d ≡ opened.Function line ps needed value size code
    → ((all : List Function) → Begins Function file all → FunctionOf all (length first) line ps needed value size code g (length file)) → (all : List Function) → Begins Function file all → NamedOf all (length first) (out-Draft d) g (length file)
named_drafted first file d line needed size ps value code g e made all b = subst (λ x. NamedOf all (length first) x g (length file)) (sym e) (named_of (made all b))

pub counted : {A : Type 0} (xs ys : List A) (x : A) (k : ℕ) → length xs ≡ k → ys ≡ xs ++ x ∷ [] → length ys ≡ k + 1
counted xs ys x k e new =
    let l : length (xs ++ x ∷ []) ≡ length xs + 1 = length-append xs (x ∷ []) in
    ap length new ∙ l ∙ ap (λ n. n + 1) e

-- before the first instruction
pub body_begin : (all : List Function) (f : Function) (n : ℕ) (code : List Draft) → CodeOf all f 0 n 0 (take 0 (reverse code)) 0 n 0
body_begin all f n code = end

-- before the first function
pub file_begin : (drafts : List Draft) (named anonymous : List Function) → named ≡ [] → anonymous ≡ [] → (all : List Function) → Begins Function anonymous all → FileOf all 0 (take 0 drafts) named (length anonymous)
file_begin drafts named anonymous e z all b = subst (λ l. FileOf all 0 [] l (length anonymous)) (sym e) (subst (λ l. FileOf all 0 [] [] (length l)) (sym z) none)

-- a function whose parameters and code are told in another way
pub made_as : (first file : List Function) (line needed size : ℕ) (ps ps' : List DraftParameter) (value : ValueType) (code code' : List Draft) (g : Function) → ps' ≡ ps → code' ≡ code
    → ((all : List Function) → Begins Function file all → FunctionOf all (length first) line ps' needed value size code' g (length file)) → (all : List Function) → Begins Function file all → FunctionOf all (length first) line ps needed value size code g (length file)
made_as first file line needed size ps ps' value code code' g e z law all b =
    subst (λ l. FunctionOf all (length first) line l needed value size code g (length file)) e (subst (λ l. FunctionOf all (length first) line ps' needed value size l g (length file)) z (law all b))
