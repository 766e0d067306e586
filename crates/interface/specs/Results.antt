-- A price, a place or the index of a band, or none, as two numbers: 1 and it, or 0 and 0.
use Rattle.std.specs.Prelude.{ℕ, Option, Some, None}
use Rattle.interface.specs.declared.PriceFound.{PriceFound}
use Rattle.interface.specs.declared.PlaceFound.{PlaceFound}
use Rattle.interface.specs.declared.BandFound.{BandFound}

-- "a place above 11,739 or a price off the ladder is told apart from every proper answer. So is a step or a limit asked from a price
-- off the ladder": from document 02, b, on, from a price outside its ends.
unfoldable pub price_found : Option ℕ → PriceFound
price_found (Some p) = record { found = 1; price = p }
price_found None = record { found = 0; price = 0 }

unfoldable pub place_found : Option ℕ → PlaceFound
place_found (Some k) = record { found = 1; place = k }
place_found None = record { found = 0; place = 0 }

unfoldable pub band_found : Option ℕ → BandFound
band_found (Some k) = record { found = 1; index = k }
band_found None = record { found = 0; index = 0 }
