mod Broken
