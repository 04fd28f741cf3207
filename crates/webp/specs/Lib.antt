-- definitions
pub mod Webp
pub mod Write
-- laws
pub mod ReadLaws
pub mod WriteLaws
pub mod WebpLaws
-- small files, by computation
pub mod Worked
