-- Parsing a printed address gives that address.
use Rattle.std.proofs.Common.{◌≡◌, ℕ, zero, suc, ◌+◌, ◌-◌, ◌*◌, ◌/◌, ◌%◌, ◌^◌, ◌<◌, cond, Bool, true, false, List, [], ◌∷◌, ◌++◌, length, get_or, take, drop, Some, None, refl, sym, ap, ◌∙◌, arith}
use Rattle.std.proofs.Common.{append_assoc, length-append}
use Rattle.std.specs.Prelude.{◌==◌, ◌&&◌, ◌||◌, nat_le, slice_index, decimal}
use Rattle.std.specs.Option.{option_map}
use Rattle.std.specs.Result.{result_ok}
use Rattle.std.specs.Char.{is_ascii_digit}
use Rattle.std.specs.Net.Addr.{segments_of, octets_of, ipv4_octets, ipv6_octets, ipv6_segments, IsIpv4Addr, IsIpv6Addr}
use Rattle.std.specs.Net.Text.{dotted_text, ipv4_text}
use Rattle.std.specs.declared.net.ip_addr.IpAddr.{IpAddr}
use Rattle.std.specs.declared.net.ip_addr.IpAddr.TheVariants as Ip
use Rattle.std.specs.declared.net.ipv4_addr.Ipv4Addr.{Ipv4Addr}
use Rattle.std.specs.declared.net.ipv6_addr.Ipv6Addr.{Ipv6Addr}
use Rattle.std.specs.declared.net.socket_addr.SocketAddr.{SocketAddr}
use Rattle.std.specs.declared.net.socket_addr.SocketAddr.TheVariants.{V4, V6}
use Rattle.std.proofs.lemmas.List.{get_or-append_right, take-append-le, take_all}
use Rattle.std.proofs.Common.{inl, inr}
use Rattle.std.proofs.lemmas.Bool.{cases_order}
use Rattle.std.proofs.lemmas.Fmt.{decimal_nonempty}
use Rattle.hex.specs.Hex.{encode_with, encode_lower, lower_digits, decode_sized, IsBytes}
use Rattle.hex.proofs.HexLemmas.{length-encode_with, decode_sized-encode_lower}
use Rattle.turn_lines.specs.Address.{address_of, ip_of, ipv4_of, ipv6_of, with_port}
use Rattle.turn_lines.specs.Field.{is_lower_hex}
use Rattle.turn_lines.specs.Parts.{parts_of}
use Rattle.turn_lines.specs.Text.{address_text, ip_text}
use Rattle.turn_lines.specs.Line.{IsIp, IsSpelled}
use Rattle.turn_lines.proofs.NumberLemmas.{both}
use Rattle.turn_lines.proofs.LawLemmas.{Free, Free-append, Free-from_test, parts_of-join, decimal_free, decimal_up_to-decimal}

-- ---- hexadecimal

abbrev pub is_lower : ℕ → Bool
is_lower c = (nat_le 48 c && nat_le c 57) || (nat_le 97 c && nat_le c 102)

-- the digits of the table below this index are lower-case hexadecimal
below : ℕ → Bool
below zero = true
below (suc n) = below n && is_lower (slice_index lower_digits n)

below-at : (n d : ℕ) → d < n → below n ≡ true → is_lower (slice_index lower_digits d) ≡ true
unfolding below
below-at zero d low h = absurd (omega arith)
below-at (suc n) d low h =
    elim (cases_order d n) [
      | inl same ↦ rw same (both h).1
      | inr other ↦ elim other [ inl less ↦ below-at n d less (both h).0 | inr more ↦ absurd (omega arith) ]
    ]

lower_digit : (d : ℕ) → d < 16 → is_lower (slice_index lower_digits d) ≡ true
unfolding below
lower_digit d low = below-at 16 d low refl

pub is_lower_hex-encode_lower : (bytes : List ℕ) → IsBytes bytes → is_lower_hex (encode_lower bytes) ≡ true
unfolding encode_with
is_lower_hex-encode_lower [] h = refl
is_lower_hex-encode_lower (b ∷ bytes) h =
    let fits : b < 256 = h 0 in
    let high : is_lower (slice_index lower_digits (b / 16)) ≡ true = lower_digit (b / 16) (omega arith) in
    let low : is_lower (slice_index lower_digits (b % 16)) ≡ true = lower_digit (b % 16) (omega arith) in
    let rest : is_lower_hex (encode_lower bytes) ≡ true = is_lower_hex-encode_lower bytes (λ k. h (suc k)) in
    λ i. high i && (low i && rest i)

pub hex_free : (c : ℕ) (bytes : List ℕ) → is_lower c ≡ false → IsBytes bytes → Free c (encode_lower bytes)
hex_free c bytes fails h = Free-from_test is_lower c fails (encode_lower bytes) (is_lower_hex-encode_lower bytes h)

-- ---- IPv4

four_cells : (o : List ℕ) → length o ≡ 4 → slice_index o 0 ∷ slice_index o 1 ∷ slice_index o 2 ∷ slice_index o 3 ∷ [] ≡ o
four_cells (a ∷ b ∷ c ∷ d ∷ []) h = refl
four_cells [] h = absurd (omega arith)
four_cells (a ∷ []) h = absurd (omega arith)
four_cells (a ∷ b ∷ []) h = absurd (omega arith)
four_cells (a ∷ b ∷ c ∷ []) h = absurd (omega arith)
four_cells (a ∷ b ∷ c ∷ d ∷ e ∷ o) h = absurd (omega arith)

abbrev four_parts : ℕ → ℕ → ℕ → ℕ → List (List ℕ)
four_parts a b c d = decimal a ∷ decimal b ∷ decimal c ∷ decimal d ∷ []

parts_of-dotted : (a b c d : ℕ) → a < 256 → b < 256 → c < 256 → d < 256 → parts_of 46 (dotted_text a b c d) ≡ four_parts a b c d
parts_of-dotted a b c d ha hb hc hd =
    let regrouped : dotted_text a b c d ≡ decimal a ++ 46 ∷ (decimal b ++ 46 ∷ (decimal c ++ 46 ∷ decimal d)) = simp append_assoc in
    ap (parts_of 46) regrouped
    ∙ parts_of-join 46 (decimal a) (decimal b ∷ decimal c ∷ decimal d ∷ [])
    (decimal_free 46 a refl (omega arith), (decimal_free 46 b refl (omega arith), (decimal_free 46 c refl (omega arith), (decimal_free 46 d refl (omega arith), tt))))

ipv4_of-dotted : (a b c d : ℕ) → a < 256 → b < 256 → c < 256 → d < 256 → ipv4_of (dotted_text a b c d) ≡ Some (record { octets = a ∷ b ∷ c ∷ d ∷ [] })
unfolding ipv4_of
ipv4_of-dotted a b c d ha hb hc hd =
    rw (
      parts_of-dotted a b c d ha hb hc hd,
      decimal_up_to-decimal 255 a (omega arith) (omega arith),
      decimal_up_to-decimal 255 b (omega arith) (omega arith),
      decimal_up_to-decimal 255 c
          (omega arith) (omega arith),
      decimal_up_to-decimal 255 d (omega arith) (omega arith),
    ) refl

-- a byte that is neither a digit nor a dot does not occur in an IPv4 address
dotted_free : (x a b c d : ℕ) → is_ascii_digit x ≡ false → (46 == x) ≡ false → a < 256 → b < 256 → c < 256 → d < 256 → Free x (dotted_text a b c d)
dotted_free x a b c d digit dot ha hb hc hd =
    let add = Free-append x in
    add _ _ (add _ _ (add _ _ (add _ _ (add _ _ (add _ _ (decimal_free x a digit (omega arith)) (dot, tt)) (decimal_free x b digit (omega arith))) (dot, tt)) (decimal_free x c digit (omega arith)))
    (dot, tt)) (decimal_free x d digit (omega arith))

-- ---- the host and the port

first_of_free : (c : ℕ) (text : List ℕ) → (0 == c) ≡ false → Free c text → (slice_index text 0 == c) ≡ false
first_of_free c [] zero_is_not free = zero_is_not
first_of_free c (x ∷ xs) zero_is_not free = free.0

middle_false : (x y : Bool) → (x && false) && y ≡ false
middle_false true y = refl
middle_false false y = refl

ip_of-ipv4 : (text : List ℕ) → (slice_index text 0 == 91) ≡ false → ip_of text ≡ option_map Ip.V4 (ipv4_of text)
ip_of-ipv4 text plain =
    let in_brackets = option_map Ip.V6 (ipv6_of (take (length text - 2) (drop 1 text))) in
    let bare = option_map Ip.V4 (ipv4_of text) in
    ap (λ b. cond ((nat_le 2 (length text) && b) && (slice_index text (length text - 1) == 93)) in_brackets bare) plain
    ∙ ap (λ b. cond b in_brackets bare) (middle_false (nat_le 2 (length text)) (slice_index text (length text - 1) == 93))

ip_of-ipv6 : (digits : List ℕ) → length digits ≡ 32 → ip_of (91 ∷ (digits ++ 93 ∷ [])) ≡ option_map Ip.V6 (ipv6_of digits)
ip_of-ipv6 digits len =
    let text = 91 ∷ (digits ++ 93 ∷ []) in
    let whole : length text ≡ 34 = omega (arith, length-append digits (93 ∷ [])) in
    let last : get_or (digits ++ 93 ∷ []) 32 0 ≡ 93 = get_or-append_right digits (93 ∷ []) 32 32 0 len (omega arith) in
    let inner : take 32 (digits ++ 93 ∷ []) ≡ digits = take-append-le 32 digits (93 ∷ []) (omega arith) ∙ take_all 32 digits (omega arith) in
    let in_brackets = λ (ds : List ℕ). option_map Ip.V6 (ipv6_of ds) in
    let bare = option_map Ip.V4 (ipv4_of text) in
    ap (λ n. cond ((nat_le 2 n && (slice_index text 0 == 91)) && (slice_index text (n - 1) == 93)) (in_brackets (take (n - 2) (drop 1 text))) bare) whole
    ∙ ap (λ x. cond (x == 93) (in_brackets (take 32 (digits ++ 93 ∷ []))) bare) last
    ∙ ap in_brackets inner

-- ---- an IPv6 address

segments_of-octets_of : (xs : List ℕ) → ((k : ℕ) → slice_index xs k < 2 ^ 16) → segments_of (octets_of xs) ≡ xs
segments_of-octets_of [] small = refl
segments_of-octets_of (s ∷ xs) small =
    let whole : s / 256 * 256 + s % 256 ≡ s = omega arith in
    λ i. whole i ∷ segments_of-octets_of xs (λ k. small (suc k)) i

length-octets_of : (xs : List ℕ) → length (octets_of xs) ≡ 2 * length xs
length-octets_of [] = refl
length-octets_of (s ∷ xs) = omega (arith, length-octets_of xs)

octets_are_bytes : (xs : List ℕ) → ((k : ℕ) → slice_index xs k < 2 ^ 16) → IsBytes (octets_of xs)
octets_are_bytes [] small k = omega arith
octets_are_bytes (s ∷ xs) small zero = let low : s < 2 ^ 16 = small 0 in omega arith
octets_are_bytes (s ∷ xs) small (suc zero) = omega arith
octets_are_bytes (s ∷ xs) small (suc (suc k)) = octets_are_bytes xs (λ j. small (suc j)) k

ipv6_of-digits : (ip : Ipv6Addr) → IsIpv6Addr ip → ipv6_of (encode_lower (ipv6_octets ip)) ≡ Some ip
ipv6_of-digits ip h =
    let octets = ipv6_octets ip in
    let bytes : IsBytes octets = octets_are_bytes (ipv6_segments ip) h.1 in
    let sixteen : length octets ≡ 16 = omega (arith, length-octets_of (ipv6_segments ip), h.0) in
    ap (λ b. cond b (option_map (λ o. record { segments = segments_of o }) (result_ok (decode_sized (encode_lower octets) 16))) None) (is_lower_hex-encode_lower octets bytes)
    ∙ ap (λ r. option_map (λ o. record { segments = segments_of o }) (result_ok r)) (decode_sized-encode_lower octets 16 sixteen bytes)
    ∙ ap (λ s. Some (record { segments = s })) (segments_of-octets_of (ipv6_segments ip) h.1)

-- ---- addresses

octet_low : (o : List ℕ) → ((k : ℕ) → slice_index o k < 2 ^ 8) → (k : ℕ) → slice_index o k < 256
octet_low o h k = omega (arith, h k)

ipv4_of-text : (ip : Ipv4Addr) → IsIpv4Addr ip → ipv4_of (ipv4_text (ipv4_octets ip)) ≡ Some ip
ipv4_of-text ip h =
    let o = ipv4_octets ip in
    ipv4_of-dotted (slice_index o 0) (slice_index o 1) (slice_index o 2) (slice_index o 3) (octet_low o h.1 0) (octet_low o h.1 1) (octet_low o h.1 2) (octet_low o h.1 3)
    ∙ ap (λ (xs : List ℕ). Some (record { octets = xs })) (four_cells o h.0)

ipv4_text_free : (x : ℕ) (ip : Ipv4Addr) → is_ascii_digit x ≡ false → (46 == x) ≡ false → IsIpv4Addr ip → Free x (ipv4_text (ipv4_octets ip))
ipv4_text_free x ip digit dot h =
    let o = ipv4_octets ip in
    dotted_free x (slice_index o 0) (slice_index o 1) (slice_index o 2) (slice_index o 3) digit dot (octet_low o h.1 0) (octet_low o h.1 1) (octet_low o h.1 2) (octet_low o h.1 3)

v4_parts : (host : List ℕ) (port : ℕ) → Free 58 host → port < 2 ^ 16 → parts_of 58 ((host ++ 58 ∷ []) ++ decimal port) ≡ host ∷ decimal port ∷ []
v4_parts host port free h =
    ap (parts_of 58) (append_assoc host (58 ∷ []) (decimal port))
    ∙ parts_of-join 58 host (decimal port ∷ []) (free, (decimal_free 58 port refl (omega arith), tt))

v6_parts : (digits : List ℕ) (port : ℕ) → Free 58 digits → port < 2 ^ 16 → parts_of 58 (91 ∷ (digits ++ (93 ∷ 58 ∷ decimal port))) ≡ (91 ∷ (digits ++ 93 ∷ [])) ∷ decimal port ∷ []
v6_parts digits port free h =
    ap (λ t. parts_of 58 (91 ∷ t)) (sym (append_assoc digits (93 ∷ []) (58 ∷ decimal port)))
    ∙ parts_of-join 58 (91 ∷ (digits ++ 93 ∷ [])) (decimal port ∷ [])
    ((refl, Free-append 58 digits (93 ∷ []) free (refl, tt)), (decimal_free 58 port refl (omega arith), tt))

length-ipv6_text : (ip : Ipv6Addr) → IsIpv6Addr ip → length (encode_lower (ipv6_octets ip)) ≡ 32
length-ipv6_text ip h =
    omega (arith, length-encode_with lower_digits (ipv6_octets ip), length-octets_of (ipv6_segments ip), h.0)

ipv6_bytes : (ip : Ipv6Addr) → IsIpv6Addr ip → IsBytes (ipv6_octets ip)
ipv6_bytes ip h = octets_are_bytes (ipv6_segments ip) h.1

-- parsing a printed IP address gives that address
pub ip_of-ip_text : (ip : IpAddr) → IsIp ip → ip_of (ip_text ip) ≡ Some ip
ip_of-ip_text (Ip.V4 ip) h =
    let text = ipv4_text (ipv4_octets ip) in
    ip_of-ipv4 text (first_of_free 91 text refl (ipv4_text_free 91 ip refl refl h)) ∙ ap (option_map Ip.V4) (ipv4_of-text ip h)
ip_of-ip_text (Ip.V6 ip) h =
    ip_of-ipv6 (encode_lower (ipv6_octets ip)) (length-ipv6_text ip h) ∙ ap (option_map Ip.V6) (ipv6_of-digits ip h)

-- no byte of a printed IP address is a space
pub ip_free : (ip : IpAddr) → IsIp ip → Free 32 (ip_text ip)
ip_free (Ip.V4 ip) h = ipv4_text_free 32 ip refl refl h
ip_free (Ip.V6 ip) h = (refl, Free-append 32 (encode_lower (ipv6_octets ip)) _ (hex_free 32 (ipv6_octets ip) refl (ipv6_bytes ip h)) (refl, tt))

address_of-parts : (text host : List ℕ) (ip : IpAddr) (port : ℕ) → parts_of 58 text ≡ host ∷ decimal port ∷ [] → ip_of host ≡ Some ip → port < 2 ^ 16 → address_of text ≡ Some (with_port ip port)
unfolding address_of
address_of-parts text host ip port e found h = rw (e, found, decimal_up_to-decimal 65535 port (omega arith) (omega arith)) refl

-- parsing a printed address gives that address
pub address_of-address_text : (address : SocketAddr) → IsSpelled address → address_of (address_text address) ≡ Some address
address_of-address_text (V4 a) h =
    let ip = a.ip in
    let port = a.port in
    let range = h.in_range in
    let host = ipv4_text (ipv4_octets ip) in
    address_of-parts (address_text (V4 a)) host (Ip.V4 ip) port (v4_parts host port (ipv4_text_free 58 ip refl refl range.0) range.1)
    (ip_of-ip_text (Ip.V4 ip) range.0) range.1
address_of-address_text (V6 a) h =
    let ip = a.ip in
    let port = a.port in
    let range = h.in_range in
    let digits = encode_lower (ipv6_octets ip) in
    let same : V6 (record { ip = ip; port = port; flowinfo = 0; scope_id = 0 }) ≡ V6 a =
    λ i. V6 (record { ip = ip; port = port; flowinfo = sym h.no_flow i; scope_id = sym h.no_scope i }) in
    address_of-parts (address_text (V6 a)) (91 ∷ (digits ++ 93 ∷ [])) (Ip.V6 ip) port
    (v6_parts digits port (hex_free 58 (ipv6_octets ip) refl (ipv6_bytes ip range.0)) range.1) (ip_of-ip_text (Ip.V6 ip) range.0) range.1
    ∙ ap Some same

colon_free : (ip : IpAddr) → IsIp ip → Free 58 (ip_text ip)
colon_free (Ip.V4 ip) h = ipv4_text_free 58 ip refl refl h
colon_free (Ip.V6 ip) h = (refl, Free-append 58 (encode_lower (ipv6_octets ip)) _ (hex_free 58 (ipv6_octets ip) refl (ipv6_bytes ip h)) (refl, tt))

-- a printed IP address is no address with a port
pub address_of-ip_text : (ip : IpAddr) → IsIp ip → address_of (ip_text ip) ≡ None
unfolding address_of
address_of-ip_text ip h = rw (parts_of-join 58 (ip_text ip) [] (colon_free ip h, tt), ip_of-ip_text ip h) refl

-- no byte of a printed address is a space
pub address_free : (address : SocketAddr) → IsSpelled address → Free 32 (address_text address)
address_free (V4 a) h =
    Free-append 32 _ _ (Free-append 32 _ _ (ipv4_text_free 32 a.ip refl refl h.in_range.0) (refl, tt)) (decimal_free 32 a.port refl (omega (arith, h.in_range.1)))
address_free (V6 a) h = (
  refl,
  Free-append 32 (encode_lower (ipv6_octets a.ip)) _ (hex_free 32 (ipv6_octets a.ip) refl (ipv6_bytes a.ip h.in_range.0))
      (refl, (refl, decimal_free 32 a.port refl (omega (arith, h.in_range.1)))),
)

-- a printed address has more than one byte
pub address_long : (address : SocketAddr) → IsSpelled address → 1 < length (address_text address)
address_long (V4 a) h =
    let host = ipv4_text (ipv4_octets a.ip) in
    omega (arith, length-append (host ++ 58 ∷ []) (decimal a.port), length-append host (58 ∷ []), decimal_nonempty a.port (omega (arith, h.in_range.1)))
address_long (V6 a) h = omega (arith, length-append (encode_lower (ipv6_octets a.ip)) (93 ∷ 58 ∷ decimal a.port))
