-- The nets of stored words are those of the model. Assumes nothing.
use mathlib.Core.Path.{◌≡◌, refl, sym, ap, ap₂, ◌∙◌}
use mathlib.Core.Bool.{Bool, true, false}
use mathlib.Core.List.{List, [], ◌∷◌, ◌++◌, map, map-append}
use Prim.Native.Nat.{ℕ, zero, suc, ◌+◌, ◌-◌, ◌<◌, ◌≤◌}
use native.Mathlib.Nat.{zero-add}
use native.Mathlib.Omega.{arith}
use lib.ListN.{length, get_or, set, take, drop, replicate}
use lib.ListN.{length-append, length-take, length-drop, length-map, length-replicate, get_or-append, get_or-map}
use lib.Seq.{sets}
use Rattle.logic.specs.Net.{Net, constant, slot, net_of_slot}
use Rattle.logic.proofs.NetLaws.{net_of_payload}
use Rattle.logic.specs.Table.{tab}
use Rattle.logic.proofs.TableLaws.{tab_ext, as_tab, length-tab, map-tab}
use Rattle.logic.specs.Word.{payload_of, net_word}
use Rattle.logic.specs.declared.Trit.TheVariants.{Undef}
use Rattle.cell_reader.specs.Parse.{nets_in}
use Rattle.smt.specs.Builder.{output_nets, extended, overwritten}
use Rattle.operands.proofs.WordsLaws.{net_of_word}
use Rattle.operands.specs.Words.{words_in, output_words, msb_word, extension, extended_words}
use Rattle.stores.proofs.Laws.{sets_append}
use Rattle.operands.proofs.Stores.{sets_front, sets_within}

-- ---- lists of words and lists of nets

map-replicate : {A B : Type 0} (f : A → B) (n : ℕ) (a : A) → map f (replicate n a) ≡ replicate n (f a)
map-replicate f zero a = refl
map-replicate {A} {B} f (suc n) a = ap (λ (r : List B). f a ∷ r) (map-replicate f n a)

map-take : {A B : Type 0} (f : A → B) (n : ℕ) (l : List A) → map f (take n l) ≡ take n (map f l)
map-take f zero l = refl
map-take f (suc n) [] = refl
map-take {A} {B} f (suc n) (x ∷ l) = ap (λ (r : List B). f x ∷ r) (map-take f n l)

map-drop : {A B : Type 0} (f : A → B) (n : ℕ) (l : List A) → map f (drop n l) ≡ drop n (map f l)
map-drop f zero l = refl
map-drop f (suc n) [] = refl
map-drop f (suc n) (x ∷ l) = map-drop f n l

pub nets-words : (w : List ℕ) (n at : ℕ) → nets_in w n at ≡ map net_of_word (words_in w n at)
nets-words w n at = sym (map-tab net_of_word n (λ i. get_or w (at + i) 0))

-- The nets at the start of a list are those of the words there.
pub nets_front : (vs r : List ℕ) (n : ℕ) → length vs ≡ n → nets_in (vs ++ r) n 0 ≡ map net_of_word vs
nets_front vs r n e =
    tab_ext n _ _ (λ i low. ap net_of_word (same i low)) ∙
    sym (map-tab net_of_word n (λ i. get_or vs i 0)) ∙ ap (map net_of_word) (sym (as_tab n vs 0 e))
  where
    same : (i : ℕ) → i < n → get_or (vs ++ r) (0 + i) 0 ≡ get_or vs i 0
    same i low = rw zero-add (get_or-append vs r 0 i (omega arith))

pub nets-stored : (l vs : List ℕ) (n : ℕ) → length vs ≡ n → n ≤ length l → nets_in (sets l 0 vs) n 0 ≡ map net_of_word vs
nets-stored l vs n e room = rw (sets_front l vs (omega arith)) (nets_front vs (drop (length vs) l) n e)

-- ---- the nets of an output

output-net : (i : ℕ) → i + 2 < 536870911 → net_of_word (net_word (net_of_slot i)) ≡ slot i
output-net i low =
    let same : payload_of (net_word (net_of_slot i)) ≡ i + 2 = omega arith in rw same (net_of_payload i low)

pub nets-output : (l : List ℕ) (s w : ℕ) → w ≤ length l → s + w + 1 < 536870911
    → nets_in (sets l 0 (output_words s w)) w 0 ≡ output_nets s w
nets-output l s w room low =
    nets-stored l (output_words s w) w (length-tab w _) room ∙
    map-tab net_of_word w (λ i. net_word (net_of_slot (s + i))) ∙ tab_ext w _ _ (λ i h. output-net (s + i) (omega arith))

-- ---- extension

-- What is stored behind the n words at the start is stored with them.
behind : (l ws more : List ℕ) (n : ℕ) → length ws ≡ n → sets (sets l 0 ws) n more ≡ sets l 0 (ws ++ more)
behind l ws more n e =
    let place : n ≡ 0 + length ws = omega arith in rw place (sym (sets_append l 0 ws more))

extended-words : (signed : Bool) (ws : List ℕ) (w : ℕ)
    → map net_of_word (extended_words signed ws w) ≡ extended signed (map net_of_word ws) w
extended-words true ws w =
    map-append net_of_word ws _ ∙
    ap (λ (r : List Net). map net_of_word ws ++ r) (map-replicate net_of_word (w - length ws) (msb_word ws) ∙
    rw (length-map ws net_of_word)
    (ap (replicate (w - length ws)) (sym (get_or-map net_of_word ws (length ws - 1) 536870911))))
extended-words false ws w =
    map-append net_of_word ws _ ∙
    ap (λ (r : List Net). map net_of_word ws ++ r)
    (map-replicate net_of_word (w - length ws) 0 ∙ rw (length-map ws net_of_word))

length-extended : (signed : Bool) (ws : List ℕ) (n w : ℕ) → length ws ≡ n → n ≤ w → length (extended_words signed ws w)
    ≡ w
length-extended signed ws n w e wide = simp (length-append, length-replicate) (omega arith)

get_d_tab : {A : Type 0} (n : ℕ) (f : ℕ → A) (i : ℕ) (d : A) → i < n → get_or (tab n f) i d ≡ f i
unfolding tab
get_d_tab zero f i d low = absurd (omega arith)
get_d_tab (suc n) f zero d low = refl
get_d_tab (suc n) f (suc i) d low = get_d_tab n (λ j. f (suc j)) i d (omega arith)

-- The word of the top net is the last of the words.
pub msb_last : (words : List ℕ) (n at : ℕ) → (n ≡ 0 → ⊥) → get_or words (at + (n - 1)) 0 ≡ msb_word (words_in words n at)
msb_last words n at some = rw length-tab (sym (get_d_tab n (λ i. get_or words (at + i) 0) (n - 1) 536870911 (omega arith)))

-- A run of words, and after it one word up to a width.
pub extended-stored : (signed : Bool) (l words : List ℕ) (n at w : ℕ)
    → sets (sets l 0 (words_in words n at)) n (replicate (w - n) (extension signed (words_in words n at)))
    ≡ sets l 0 (extended_words signed (words_in words n at) w)
extended-stored signed l words n at w =
    let ws = words_in words n at in
    let more = replicate (w - n) (extension signed ws) in behind l ws more n (length-tab n _) ∙ rw length-tab

pub nets-extended : (signed : Bool) (l words : List ℕ) (n at w : ℕ) → n ≤ w → w ≤ length l
    → nets_in (sets l 0 (extended_words signed (words_in words n at) w)) w 0 ≡ extended signed (nets_in words n at) w
nets-extended signed l words n at w wide room =
    let ws = words_in words n at in
    nets-stored l (extended_words signed ws w) w (length-extended signed ws n w (length-tab n _) wide) room ∙
    extended-words signed ws w ∙ ap (λ (v : List Net). extended signed v w) (sym (nets-words words n at))

-- One net X above the others.
pub topped_stored : (l words : List ℕ) (n at : ℕ)
    → set (sets l 0 (words_in words n at)) n 536870911 ≡ sets l 0 (words_in words n at ++ (536870911 ∷ []))
topped_stored l words n at = behind l (words_in words n at) (536870911 ∷ []) n (length-tab n _)

pub nets_topped : (l words : List ℕ) (n at : ℕ) → n + 1 ≤ length l
    → nets_in (sets l 0 (words_in words n at ++ (536870911 ∷ []))) (n + 1) 0 ≡ nets_in words n at ++ (constant Undef ∷ [])
nets_topped l words n at room =
    let ws = words_in words n at in
    nets-stored l (ws ++ (536870911 ∷ [])) (n + 1) long room ∙ map-append net_of_word ws (536870911 ∷ []) ∙
    ap (λ (v : List Net). v ++ (constant Undef ∷ [])) (sym (nets-words words n at))
  where
    long : length (words_in words n at ++ (536870911 ∷ [])) ≡ n + 1
    long = simp (length-append, length-tab)

-- ---- an update

overwritten-words : (l vs us : List ℕ) (n offset : ℕ) → length vs ≡ n → n ≤ length l → offset + length us ≤ n
    → nets_in (sets (sets l 0 vs) offset us) n 0 ≡ overwritten (map net_of_word vs) offset (map net_of_word us)
overwritten-words l vs us n offset e room within =
    rw (sets_within l vs us offset (omega arith) (omega arith))
    (nets_front (take offset vs ++ (us ++ drop (offset + length us) vs)) (drop (length vs) l) n long ∙ nets)
  where
    long : length (take offset vs ++ (us ++ drop (offset + length us) vs)) ≡ n
    long = simp (length-append, length-take, length-drop) (omega arith)

    nets : map net_of_word (take offset vs ++ (us ++ drop (offset + length us) vs))
        ≡ overwritten (map net_of_word vs) offset (map net_of_word us)
    nets =
        map-append net_of_word (take offset vs) _ ∙
        ap₂ (λ (a b : List Net). a ++ b) (map-take net_of_word offset vs) (map-append net_of_word us _ ∙
        ap (λ (r : List Net). map net_of_word us ++ r)
        (map-drop net_of_word (offset + length us) vs ∙ rw (length-map us net_of_word)))

pub nets-overwritten : (l words : List ℕ) (value n update u offset : ℕ) → n ≤ length l → offset + u ≤ n
    → nets_in (sets (sets l 0 (words_in words n value)) offset (words_in words u update)) n 0
    ≡ overwritten (nets_in words n value) offset (nets_in words u update)
nets-overwritten l words value n update u offset room within =
    overwritten-words l (words_in words n value) (words_in words u update) n offset (length-tab n _) room
    (rw length-tab within) ∙
    ap₂ (λ (a b : List Net). overwritten a offset b) (sym (nets-words words n value)) (sym (nets-words words u update))
